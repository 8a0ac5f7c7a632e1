-- How the code's cursors and steps are seen.
use Rattle.pcvalue.specs.declared.step.Cursor.{Cursor}
use Rattle.pcvalue.specs.declared.step.Step.{Step}
use Rattle.pcvalue.specs.declared.step.Step.TheVariants as steps
use Rattle.pcvalue.specs.Runs.{Point, Reading, Another, Finished, Fault}

abbrev pub point_of : Cursor → Point
point_of cursor = record { run = cursor.run; rest = cursor.rest.now }

abbrev pub reading_of : Step → Reading
reading_of (steps.Another cursor) = Another (point_of cursor)
reading_of steps.Finished = Finished
reading_of steps.Fault = Fault
