use Rattle.std.proofs.Common.{sym, subst, ◌∙◌, arith}
use Rattle.std.specs.Str.{IsUtf8}
use Rattle.bus_address.specs.ReadBack.{IsValue, IsOptionalValue}
use Rattle.bus_address.proofs.Choices.{none_copied}
use Rattle.bus_address.proofs.tcp.Tcp.is_readable.Goals as goal

pub returns-clause-readable : goal.returns-clause-readable
returns-clause-readable c = λ some. record {
  host = subst IsValue (c.as_bytes.ensures.value ∙ c.host.ensures) (c.has_bytes.ensures.readable c.if-not-has_bytes.false);
  text = subst IsUtf8 c.host.ensures c.host.utf8;
  bind = sym c.bind.ensures ∙ none_copied c.bind.result (sym c.is_some.ensures ∙ c.if-is_some.false);
  port = omega (arith, c.port-port.type_inv, c.port-port.ensures);
  nonce_file = subst IsOptionalValue c.nonce_file.ensures (c.has_bytes_if_some.ensures.readable some);
}
