use Rattle.std.specs.Option.{SomeIff}
use Rattle.std.specs.Prelude.{◌&&◌}
use Rattle.std.proofs.Common.{◌≡◌, true, sym, subst}
use Rattle.mm_base.specs.Num.{IsDecimal}
use Rattle.mm_c.specs.Tokens.{are_digits, digits_in, is_number, number_in}
use Rattle.mm_c_text.proofs.Suffix.{number_is_decimal}
use Rattle.mm_c_text.proofs.number.read_number.Goals as goal

pub returns-in_err-value : goal.returns-in_err-value
returns-in_err-value c =
    subst (λ o. SomeIff o ((are_digits (digits_in c.args.text.now) && is_number (number_in c.args.text.now)) ≡ true) (number_in c.args.text.now)) (sym c.from_residual.ensures)
    (λ h. c.in_err-value.ensures (subst IsDecimal (sym c.digits-digits.ensures) (number_is_decimal c.args.text.now h)))
