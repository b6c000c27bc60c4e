use Rattle.std.proofs.Common.{◌≡◌, sym, ap, ◌∙◌, subst}
use Rattle.wt_proto.specs.declared.message.Stamped.{Stamped}
use Rattle.quantum.specs.Sites.{least_with_of}
use Rattle.quantum.specs.Stations.{IsLive, MayAccept, accept_of}
use Rattle.quantum.proofs.Accepted.{with_queue, new_key, accepted, accepts}
use Rattle.quantum.proofs.Due.{with_message}
use Rattle.quantum.proofs.station.Station.accept_letter.Goals as goal

pub insert_letter-requires : goal.insert_letter-requires
insert_letter-requires g c =
    let inside = c.self.inside in
    let rising = (c.self.invariant c.if-self.false).rising in
    record { new_key = new_key inside.site.node inside.until inside.broken inside.site.queue inside.site.queue c.args.message rising rising (subst (λ s. MayAccept s c.args.message) (sym c.self.view_is) c.requires) }

pub invariant_of-self : goal.invariant_of-self
invariant_of-self g c = λ unbroken.
    let inside = c.self.inside in
    let kept = c.self.invariant unbroken in
    let may = subst (λ s. MayAccept s c.args.message) (sym c.self.view_is) c.requires in
    let before = with_queue inside.site.node inside.until inside.broken inside.site.queue in
    record {
      rising = c.in-Ok.ensures.rising;
      live = subst IsLive (sym (accepts inside.site.node inside.until inside.broken inside.site.queue c.insert_letter.new.self c.args.message kept.rising c.in-Ok.ensures.rising may c.in-Ok.ensures.ok)) (accepted c.args.message before kept.live may);
      due_is =
          c.least_with-self-inside.ensures
          ∙ ap (λ (m : Stamped). least_with_of inside.site inside.due m.time) c.message.ensures
          ∙ with_message inside.site c.insert_letter.new.self c.args.message inside.due kept.rising c.in-Ok.ensures.rising c.in-Ok.ensures.ok may.to may.new kept.due_is;
    }

pub returns-in-Ok-clause-live : goal.returns-in-Ok-clause-live
returns-in-Ok-clause-live g c = λ unbroken.
    let inside = c.self.inside in
    let kept = c.self.invariant unbroken in
    let may = subst (λ s. MayAccept s c.args.message) (sym c.self.view_is) c.requires in
    let before = with_queue inside.site.node inside.until inside.broken inside.site.queue in
    subst IsLive (sym (accepts inside.site.node inside.until inside.broken inside.site.queue c.insert_letter.new.self c.args.message kept.rising c.in-Ok.ensures.rising may c.in-Ok.ensures.ok)) (accepted c.args.message before kept.live may)

pub returns-in-Ok-clause-ok : goal.returns-in-Ok-clause-ok
returns-in-Ok-clause-ok g c =
    let inside = c.self.inside in
    let may = subst (λ s. MayAccept s c.args.message) (sym c.self.view_is) c.requires in
    subst (λ s. with_queue inside.site.node inside.until inside.broken c.insert_letter.new.self ≡ accept_of c.args.message s) c.self.view_is
    (accepts inside.site.node inside.until inside.broken inside.site.queue c.insert_letter.new.self c.args.message (c.self.invariant c.if-self.false).rising c.in-Ok.ensures.rising may c.in-Ok.ensures.ok)
