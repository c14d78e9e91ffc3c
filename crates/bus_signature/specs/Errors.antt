-- The printed errors.
use Rattle.std.specs.Prelude.{ℕ, List, codes}
use Rattle.bus_signature.specs.declared.error.Error.{Error}
use Rattle.bus_signature.specs.declared.error.Error.TheVariants.{InvalidSignature, OutOfMemory}

abbrev pub error_text : Error → List ℕ
error_text InvalidSignature = codes "Invalid signature"
error_text OutOfMemory = codes "out of memory"
