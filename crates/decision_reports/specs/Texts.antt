-- Texts one after the other.
use Rattle.std.specs.Prelude.{◌≡◌, ◌∷◌, ◌++◌, [], ℕ, List}

-- each of these has its text, and the text is all of them in order
abbrev pub AreTexts : {X : Type 0} → (X → List ℕ → Type 0) → List X → List ℕ → Type 0
AreTexts IsText [] text = text ≡ []
AreTexts IsText (x ∷ xs) text = (first : List ℕ) × (rest : List ℕ) × IsText x first × AreTexts IsText xs rest × (text ≡ first ++ rest)
