-- `end_lines::put_end` meets its contract: the lines of the processes, and then the report.
use Rattle.areas.specs.Area.{run_in}
use Rattle.checks.specs.Calls.{report}
use Rattle.lines.specs.AddingLaws.{room_first, ◌adds-then◌, adds_room}
use Rattle.program_text.specs.Program.{processes_text, report_lines, end_text}
use Rattle.end_lines.proofs.put_end.Goals as goal

pub put_processes-requires : goal.put_processes-requires
unfolding end_text
put_processes-requires c = let r = run_in c.args.area.words.now in room_first _ _ (processes_text r) (report_lines (report r)) c.requires

pub put_report-requires : goal.put_report-requires
unfolding end_text
put_report-requires c = adds_room (report_lines (report (run_in c.args.area.words.now))) c.put_processes.ensures c.requires

pub returns : goal.returns
unfolding end_text
returns c = c.put_processes.ensures adds-then c.put_report.ensures
