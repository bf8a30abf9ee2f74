use Rattle.ada_script.proofs.Numbers.{natural_of-is}
use Rattle.ada_script.proofs.number.natural.Goals as goal

pub returns : goal.returns
returns c = natural_of-is c.args.word.now c.spelled.result c.spelled.ensures.fits c.spelled.ensures.spelling
