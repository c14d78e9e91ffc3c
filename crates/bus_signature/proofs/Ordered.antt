-- The order, one layer at a time.
use Rattle.std.proofs.Common.{◌≡◌, List, refl, ◌∙◌, Less}
use Rattle.std.specs.Ordering.{ordering_then}
use Rattle.std.specs.Cmp.Lexicographic.{slice_cmp}
use Rattle.bus_signature.specs.declared.signature.Signature.{Signature}
use Rattle.bus_signature.specs.declared.signature.Signature.TheViews.{out-Signature, outs-Structure}
use Rattle.bus_signature.specs.declared.signature.Signature.TheVariants.{Fd, Array, Dict, Structure}
use Rattle.bus_signature.specs.contracts.signature.SignatureOrd.TheImpl as O
use Rattle.bus_signature.specs.contracts.signature.SignatureOrd.TheImpl.Laws as L

pub order_array : (s t : Signature) → (O.ghosts).cmp (Array s) (Array t) ≡ (O.ghosts).cmp s t
unfolding out-Signature denote.Hole.Carrier.out Rattle.bus_signature.specs.declared.signature.Signature.TheBlock.shown-the_row-Signature-0 denote.Hole.Carrier.shown denote.Hole.Carrier.hidden
order_array s t = L.is (Array s) (Array t)

pub order_dict : (k v j w : Signature) → (O.ghosts).cmp (Dict k v) (Dict j w) ≡ ordering_then ((O.ghosts).cmp k j) ((O.ghosts).cmp v w)
unfolding out-Signature denote.Hole.Carrier.out Rattle.bus_signature.specs.declared.signature.Signature.TheBlock.shown-the_row-Signature-0 denote.Hole.Carrier.shown denote.Hole.Carrier.hidden
order_dict k v j w = L.is (Dict k v) (Dict j w)

pub order_structure : (fs gs : List Signature) → (O.ghosts).cmp (Structure fs) (Structure gs) ≡ slice_cmp (O.ghosts).cmp fs gs
order_structure fs gs = L.is (Structure fs) (Structure gs) ∙ (rw (outs-Structure fs, outs-Structure gs) refl)

pub fd_array : (s : Signature) → (O.ghosts).cmp Fd (Array s) ≡ Less
unfolding out-Signature denote.Hole.Carrier.out
fd_array s = L.is Fd (Array s)

pub array_dict : (s k v : Signature) → (O.ghosts).cmp (Array s) (Dict k v) ≡ Less
unfolding out-Signature denote.Hole.Carrier.out
array_dict s k v = L.is (Array s) (Dict k v)
