use Rattle.std.proofs.Common.{◌≡◌, ◌≤◌, drop}
use Rattle.rv_asm.proofs.Digits.{read}
use Rattle.rv_asm.specs.declared.number.TheConstants.{LIMIT}
use Rattle.rv_asm.proofs.number.digits.Given as goal

abbrev pub invariant-loop-digit : goal.invariant-loop-digit
invariant-loop-digit l = record {
  same : read LIMIT l.radix l.value (drop l.digit-index l.text) ≡ read LIMIT l.radix 0 l.text;
  small : l.value ≤ LIMIT;
}
