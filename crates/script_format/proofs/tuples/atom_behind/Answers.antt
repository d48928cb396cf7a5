use Rattle.std.proofs.Common.{None, lit<}
use Rattle.std.proofs.lemmas.Str.Pattern.{strip_prefix_char}
use Rattle.script_format.proofs.Placed.{no_arrow}
use Rattle.script_format.proofs.tuples.atom_behind.Goals as goal

pub returns-in-None : goal.returns-in-None
returns-in-None c = no_arrow c.args.text.now (strip_prefix_char 62 c.args.text.now None c.in-None.ensures.cases (lit< tt))
