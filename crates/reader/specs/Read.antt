-- What a reader has before it, and what its answers say of a part.
use Rattle.std.specs.Prelude.{List, drop}
use Rattle.rules_text.specs.Numbers.{Line, lines}
use Rattle.opening_part.specs.declared.PartOpened.{PartOpened}
use Rattle.interval_part.specs.declared.PartTaken.{PartTaken}
use Rattle.reader.specs.declared.Reader.{Reader}
use Rattle.reader.specs.declared.AfterOpening.{AfterOpening}
use Rattle.reader.specs.declared.AfterInterval.{AfterInterval}

-- the lines from the next one on
abbrev pub left : Reader → List Line
left r = lines (drop r.at r.text.now)

-- the answers, with the reader's offset for the next line's
abbrev pub opened_of : AfterOpening → PartOpened
opened_of r = record { number = r.number; line = r.line; next = r.reader.at; resources = r.resources }

abbrev pub taken_of : AfterInterval → PartTaken
taken_of r = record { number = r.number; line = r.line; next = r.reader.at; constraints = r.constraints }
