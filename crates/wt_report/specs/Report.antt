-- The report of a machine that has run. Own.
use Rattle.std.specs.Prelude.{ℕ, Bool, if◌then◌else◌, List, [], ◌∷◌, ◌++◌, length, map, flat_map, zip, codes, decimal}
use Rattle.std.specs.List.{enumerate_from}
use Rattle.wt_params.specs.declared.parts.MachineParts.{MachineParts}
use Rattle.wt_stats.specs.declared.counters.Counters.{Counters}
use Rattle.wt_proto.specs.declared.mode.Mode.{Mode}
use Rattle.wt_proto.specs.declared.mode.Mode.TheVariants.{Running, Waiting, InBarrier, Stopped}
use Rattle.node.specs.declared.state.NodeState.{NodeState}
use Rattle.node.specs.State.{step_time}
use Rattle.wt_stats.specs.declared.head.Outcome.{Outcome}
use Rattle.wt_stats.specs.declared.head.Outcome.TheVariants.{Finished, Budget, EventLimit, Stalled}
use Rattle.wt_stats.specs.declared.head.Head.{Head}
use Rattle.wt_stats.specs.Counts.{counter_names, values_of, totals_of}
use Rattle.wt_trace.specs.declared.record.Record.{Record}
use Rattle.wt_trace.specs.Text.{block_text, cause_text}
use Rattle.wt_trace.specs.EventLine.{line_of}
use Rattle.wt_trace.specs.Merged.{merge_of}
use Rattle.wt_text.specs.Text.{line_end, counter_of, hex_of, hex_pairs_of}
use Rattle.wt_report.specs.declared.options.Options.{Options}
use Rattle.wt_report.specs.Memory.{memory_text}

-- ---- what the simulation came to

abbrev pub outcome_text_of : Outcome → List ℕ
outcome_text_of Finished = codes "finished"
outcome_text_of Budget = codes "budget"
outcome_text_of EventLimit = codes "events"
outcome_text_of Stalled = codes "stalled"

abbrev pub outcome_line_of : Outcome → List ℕ
outcome_line_of outcome = codes "outcome " ++ outcome_text_of outcome ++ line_end

-- a line of a text and a number
abbrev pub number_line_of : List ℕ → ℕ → List ℕ
number_line_of text number = text ++ decimal number ++ line_end

abbrev pub head_text : Head → List ℕ
head_text head =
    outcome_line_of head.outcome ++ number_line_of (codes "events ") head.events
    ++ number_line_of (codes "time ") head.time ++ number_line_of (codes "quanta ") head.quanta

-- ---- the nodes

-- what a processor does; a processor that waits for a block shows the block's address
abbrev pub state_text : MachineParts → Mode → List ℕ
state_text machine Running = codes "running"
state_text machine (Waiting block exclusive) = codes "waiting " ++ block_text machine block
state_text machine InBarrier = codes "barrier"
state_text machine (Stopped cause) = cause_text cause

-- counters in their order, each as its name and its number
abbrev pub counts_text : List (List ℕ) → List ℕ → List ℕ
counts_text names values = flat_map (λ entry. counter_of entry.0 entry.1) (zip names values)

-- the sums of counters, each as its name and its number
abbrev pub totals_text : List Counters → List ℕ
totals_text list = counts_text counter_names (values_of (totals_of list))

-- the bytes that a program has put out
abbrev pub output_text : List ℕ → List ℕ
output_text [] = []
output_text (byte ∷ bytes) = codes " " ++ hex_pairs_of (byte ∷ bytes)

-- what a node's processor does, where, and when
abbrev pub processor_text : MachineParts → NodeState → List ℕ
processor_text machine node =
    state_text machine node.mode ++ (codes " pc " ++ hex_of node.pc) ++ (codes " clock " ++ decimal (step_time node))

-- the three lines of the node at a place
abbrev pub node_line_of : MachineParts → ℕ → NodeState → List ℕ
node_line_of machine place node =
    codes "node " ++ decimal place ++ codes " " ++ processor_text machine node ++ line_end

abbrev pub count_line_of : ℕ → NodeState → List ℕ
count_line_of place node = codes "count " ++ decimal place ++ totals_text (node.counters ∷ []) ++ line_end

abbrev pub out_line_of : ℕ → NodeState → List ℕ
out_line_of place node =
    codes "out " ++ decimal place ++ codes " " ++ decimal (length node.output) ++ output_text node.output ++ line_end

abbrev pub node_text : MachineParts → ℕ × NodeState → List ℕ
node_text machine (place, node) =
    node_line_of machine place node ++ count_line_of place node ++ out_line_of place node

abbrev pub nodes_text : MachineParts → List NodeState → List ℕ
nodes_text machine nodes = flat_map (node_text machine) (enumerate_from 0 nodes)

-- ---- all nodes together

abbrev pub logs_of : List NodeState → List (List Record)
logs_of nodes = map (λ (node : NodeState). node.log) nodes

-- the lines of all events, in rising order of keys
abbrev pub trace_text : MachineParts → List NodeState → List ℕ
trace_text machine nodes = flat_map (line_of machine) (merge_of (logs_of nodes))

abbrev pub counters_of : List NodeState → List Counters
counters_of nodes = map (λ (node : NodeState). node.counters) nodes

abbrev pub total_line_of : List NodeState → List ℕ
total_line_of nodes = codes "total" ++ totals_text (counters_of nodes) ++ line_end

-- ---- the whole

abbrev pub if_asked : Bool → List ℕ → List ℕ
if_asked asked text = if asked then text else []

-- what a report that is no summary tells below its head
abbrev pub body_text : MachineParts → List NodeState → Options → List ℕ
body_text machine nodes options =
    if_asked options.trace (trace_text machine nodes) ++ nodes_text machine nodes ++ total_line_of nodes
    ++ if_asked options.memory (memory_text machine nodes)

abbrev pub rest_text : MachineParts → List NodeState → Options → List ℕ
rest_text machine nodes options = if options.summary then total_line_of nodes else body_text machine nodes options

unfoldable pub report : MachineParts → Head → List NodeState → Options → List ℕ
report machine head nodes options = head_text head ++ rest_text machine nodes options
