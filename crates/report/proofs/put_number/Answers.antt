-- std's digits of the number, put as a text.
use Rattle.report.proofs.StdDecimals.{std_decimal}
use Rattle.report.proofs.put_number.Goals as goal

pub returns-clause-puts : goal.returns-clause-puts
returns-clause-puts g c =
    rw (c.put_text.ensures, c.as_bytes.ensures.value, c.format.ensures.text, std_decimal c.args.n c.ranges.n.fits)
