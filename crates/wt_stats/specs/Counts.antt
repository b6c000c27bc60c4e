-- What nodes count, the names of the counters in order, and the sums over nodes. Own.
use Rattle.std.specs.Prelude.{ℕ, List, [], ◌∷◌, codes, sum_by}
use Rattle.wt_stats.specs.declared.counters.Counters.{Counters}
use Rattle.wt_stats.specs.declared.numbers.Totals.{Totals}

-- the names of the counters, in the order in which they are shown
abbrev pub counter_names : List (List ℕ)
counter_names =
    codes "steps" ∷ codes "messages" ∷ codes "done" ∷ codes "hits" ∷ codes "misses" ∷ codes "upgrades" ∷ codes "replaced"
    ∷ codes "checkins" ∷ codes "invs" ∷ codes "traps" ∷ codes "trap_cycles" ∷ codes "barriers" ∷ codes "stray" ∷ codes "sent" ∷ []

-- the sums in the order of the names
abbrev pub values_of : Totals → List ℕ
values_of totals =
    totals.steps ∷ totals.messages ∷ totals.done ∷ totals.hits ∷ totals.misses ∷ totals.upgrades ∷ totals.replaced
    ∷ totals.checkins ∷ totals.invs ∷ totals.traps ∷ totals.trap_cycles ∷ totals.barriers ∷ totals.stray ∷ totals.sent ∷ []

-- the sums over nodes
abbrev pub totals_of : List Counters → Totals
totals_of list = record {
  steps = sum_by (λ (c : Counters). c.steps) list;
  messages = sum_by (λ (c : Counters). c.messages) list;
  done = sum_by (λ (c : Counters). c.done) list;
  hits = sum_by (λ (c : Counters). c.hits) list;
  misses = sum_by (λ (c : Counters). c.misses) list;
  upgrades = sum_by (λ (c : Counters). c.upgrades) list;
  replaced = sum_by (λ (c : Counters). c.replaced) list;
  checkins = sum_by (λ (c : Counters). c.checkins) list;
  invs = sum_by (λ (c : Counters). c.invs) list;
  traps = sum_by (λ (c : Counters). c.traps) list;
  trap_cycles = sum_by (λ (c : Counters). c.trap_cycles) list;
  barriers = sum_by (λ (c : Counters). c.barriers) list;
  stray = sum_by (λ (c : Counters). c.stray) list;
  sent = sum_by (λ (c : Counters). c.sent) list;
}
