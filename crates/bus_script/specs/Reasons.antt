-- The word of each reason.
use Rattle.std.specs.Prelude.{ℕ, List, codes}
use Rattle.bus_script.specs.declared.line.Reason.{Reason}
use Rattle.bus_script.specs.declared.line.Reason.TheVariants.{Words, Length, Text, Form, Order, Session, Clock}

abbrev pub reason_word : Reason → List ℕ
reason_word Words = codes "words"
reason_word Length = codes "length"
reason_word Text = codes "text"
reason_word Form = codes "form"
reason_word Order = codes "order"
reason_word Session = codes "session"
reason_word Clock = codes "clock"
