-- What a signature feeds a hasher: the number of its kind, and then what is inside.
use Rattle.std.specs.Prelude.{◌++◌, length, pos}
use Rattle.std.specs.List.{flat_map}
use Rattle.std.specs.Hash.{HashWrites, isize, usize}
use Rattle.bus_signature.specs.declared.signature.Signature.{Signature}
use Rattle.bus_signature.specs.declared.signature.Signature.TheOpen.{Signature-F}
use Rattle.bus_signature.specs.declared.signature.Signature.TheFolds.{fold-Signature}

-- one signature, with what each inner one feeds in its place
abbrev pub feed_step : Signature-F HashWrites → HashWrites
feed_step Signature-F.Unit = isize (pos 0)
feed_step Signature-F.U8 = isize (pos 1)
feed_step Signature-F.Bool = isize (pos 2)
feed_step Signature-F.I16 = isize (pos 3)
feed_step Signature-F.U16 = isize (pos 4)
feed_step Signature-F.I32 = isize (pos 5)
feed_step Signature-F.U32 = isize (pos 6)
feed_step Signature-F.I64 = isize (pos 7)
feed_step Signature-F.U64 = isize (pos 8)
feed_step Signature-F.F64 = isize (pos 9)
feed_step Signature-F.Str = isize (pos 10)
feed_step Signature-F.Signature = isize (pos 11)
feed_step Signature-F.ObjectPath = isize (pos 12)
feed_step Signature-F.Variant = isize (pos 13)
feed_step Signature-F.Fd = isize (pos 14)
feed_step (Signature-F.Array child) = isize (pos 15) ++ child
feed_step (Signature-F.Dict key value) = isize (pos 16) ++ (key ++ value)
feed_step (Signature-F.Structure fields) = isize (pos 17) ++ (usize (length fields) ++ flat_map (λ inner. inner) fields)

-- the writes, in their order
unfoldable pub feed : Signature → HashWrites
feed = fold-Signature HashWrites feed_step
