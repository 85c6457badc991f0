-- `text::put_number` meets its contract, by recursion on the number. Assumes nothing.
use mathlib.Core.Path.{sym, ap}
use native.Mathlib.Omega.{arith}
use lib.ListN.{length}
use Rattle.text.proofs.Left.{wrote_then, wrote_as}
use Rattle.text.proofs.Decimal.{decimal-small, decimal-more, more-length}
use Rattle.text.proofs.+put_number.Goals as goal

pub put_byte-requires : goal.put_byte-requires
put_byte-requires t c = omega (arith, ap length (decimal-small _ c.if-n-lt10.true))

pub returns-then-n-lt10 : goal.returns-then-n-lt10
returns-then-n-lt10 t c = wrote_as (sym (decimal-small _ c.if-n-lt10.true)) c.put_byte.ensures

pub put_number-next-requires : goal.put_number-next-requires
put_number-next-requires t c = (omega arith, omega (arith, more-length _ c.if-n-lt10.false))

pub put_byte-requires-2 : goal.put_byte-requires-2
put_byte-requires-2 t c = omega (arith, c.put_number-next.ensures.next, more-length _ c.if-n-lt10.false)

pub returns : goal.returns
returns t c =
    wrote_as (sym (decimal-more _ c.if-n-lt10.false)) (wrote_then c.put_number-next.ensures c.put_byte-2.ensures)
