-- How what the code reads of a line is seen.
use Rattle.goasm_list.specs.declared.form.Draft.{Draft}
use Rattle.goasm_list.specs.declared.form.Reading.{Reading}
use Rattle.goasm_list.specs.declared.form.Reading.TheVariants as readings
use Rattle.goasm_list.specs.Form.{Parts, Form, Skipped, Line, Faulty}

abbrev pub parts_in : Draft → Parts
parts_in draft = record { kind = draft.kind; name = draft.name.now; rest = draft.rest.now; at = draft.at }

abbrev pub form_in : Reading → Form
form_in readings.Skipped = Skipped
form_in (readings.Line draft) = Line (parts_in draft)
form_in readings.Faulty = Faulty
