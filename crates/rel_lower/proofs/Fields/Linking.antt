-- Chains that have not just one operator.
use Rattle.std.proofs.Common.{◌≡◌, List, [], ◌∷◌, map, length, None, refl}
use Rattle.named_model.specs.declared.phrase.Link.{Link}
use Rattle.named_model.specs.Phrase.{PhraseTree, links_of}
use Rattle.named_model.specs.View.{link_view}
use Rattle.model_types.specs.Models.{only_link}

pub no_only_link : (x : PhraseTree) (ls : List Link) → (length ls ≡ 1 → ⊥) → None ≡ only_link x (links_of (map link_view ls))
no_only_link x [] other = refl
no_only_link x (l ∷ []) other = absurd (other refl)
no_only_link x (l ∷ k ∷ ls) other = refl
