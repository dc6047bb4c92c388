-- How long the check program's output may be.
--   pick_room, own_room, process_room, report_room   == no line of a pick, of a delivery of the program's own, of a process, and no report is longer
--   most_picks           == as many picks as the longest input has behind the largest table
--   longest_output       == no output is longer (program_short in LongestLaws); in code LONGEST_OUTPUT
-- Assumes nothing.
use Rattle.std.specs.Prelude.{ℕ, ◌+◌, ◌-◌, ◌*◌, ◌/◌}
use Rattle.tables.specs.Table.{most_processes, most_arcs, table_length}
use Rattle.checks.specs.Run.{most_deliveries}
use Rattle.inputs.specs.Input.{before_table, longest}

-- `pick 65535 65535 refused 25`, and the end of the line
abbrev pub pick_room : ℕ
pick_room = 28

-- `own 128 128 ack -128 -128`
abbrev pub own_room : ℕ
own_room = 26

-- `process 128 1 1 1 -128 256 -128`
abbrev pub process_room : ℕ
process_room = 32

-- `over 2048`, `verdict none`, `outside -128`, `escape 128`, `mark returned`
abbrev pub report_room : ℕ
report_room = 61

abbrev pub most_picks : ℕ
most_picks = (longest - (before_table + table_length most_processes most_arcs)) / 4

-- the largest table with all its deliveries, and all picks that then still have room in the input, each refused
abbrev pub longest_output : ℕ
longest_output = pick_room * most_picks + own_room * most_deliveries + process_room * most_processes + report_room
