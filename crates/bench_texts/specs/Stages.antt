-- The words of the stages.
use Rattle.std.specs.Prelude.{ℕ, List, codes}
use Rattle.bench_texts.specs.declared.stages.Stage.{Stage}
use Rattle.bench_texts.specs.declared.stages.Stage.TheVariants as stage

-- the word that asks for a stage
abbrev pub word_of : Stage → List ℕ
word_of stage.Text = codes "text"
word_of stage.Tree = codes "parse"
word_of stage.Names = codes "names"
word_of stage.Types = codes "types"
word_of stage.Problem = codes "lower"
word_of stage.Terms = codes "terms"
