-- Names that are declared twice, by numbers and by texts.
use Rattle.std.proofs.Common.{◌≡◌, ℕ, ◌==◌, Bool, true, false, not, ◌&&◌, ◌||◌, List, [], ◌∷◌, ◌++◌, Some, None, refl, ap, ◌∙◌, if◌then◌else◌}
use Rattle.std.specs.List.{list_any}
use Rattle.std.specs.Str.{bytes_eq}
use Rattle.named_model.specs.declared.fault.NameFault.TheVariants.{Twice}
use Rattle.named_model.specs.Faults as faults
use Rattle.named_model.specs.Faults.{Stated, global, field_under, assertions, parameters}
use Rattle.name_tables.specs.declared.repeated_names.stated.Space.{Space}
use Rattle.name_tables.specs.declared.repeated_names.stated.Space.TheVariants.{Global, Under, Loose, Assertions, Parameters}
use Rattle.name_tables.specs.declared.repeated_names.stated.Coded.{Coded}
use Rattle.name_tables.specs.Repeats.Coded.{IsSpace, IsCoded, AreCoded, exclude, repeats_one, repeats}
use Rattle.name_tables.proofs.Repeats.Numbers.{same_number}
use Rattle.name_tables.proofs.Repeats.Coding.{each_space, coded_push}

not_not : (b : Bool) → b ≡ not (not b)
not_not true = refl
not_not false = refl

module _ (ws : List (List ℕ)) where
  excludes : (s : Space) (p : faults.Space) → IsSpace ws s p → (t : Space) (q : faults.Space) → IsSpace ws t q → exclude s t ≡ faults.exclude p q
  excludes s p a t q b =
      each_space ws (λ s p. (t : Space) (q : faults.Space) → IsSpace ws t q → exclude s t ≡ faults.exclude p q)
      (each_space ws (λ t q. exclude Global t ≡ faults.exclude global q) refl (λ n v e. refl) refl refl (λ k l e. refl))
      (λ m u d. each_space ws (λ t q. exclude (Under m) t ≡ faults.exclude (field_under (Some u)) q) refl (λ n v e. same_number ws u v m n d e ∙ not_not (bytes_eq u v)) refl refl (λ k l e. refl))
      (each_space ws (λ t q. exclude Loose t ≡ faults.exclude (field_under None) q) refl (λ n v e. refl) refl refl (λ k l e. refl))
      (each_space ws (λ t q. exclude Assertions t ≡ faults.exclude assertions q) refl (λ n v e. refl) refl refl (λ k l e. refl))
      (λ i j d. each_space ws (λ t q. exclude (Parameters i) t ≡ faults.exclude (parameters j) q) refl (λ n v e. refl) refl refl (λ k l e. ap (λ m. m == k) d ∙ ap (λ m. j == m) e))
      s p a t q b

  one_repeats : (c d : Coded) (x y : Stated) → IsCoded ws c x → IsCoded ws d y → repeats_one c d ≡ faults.repeats_one x y
  one_repeats c d x y a b =
      ap (λ e. e && (d.word == c.word)) (excludes d.space y.space b.space_is c.space x.space a.space_is)
      ∙ ap (λ e. faults.exclude y.space x.space && e) (same_number ws y.name.text x.name.text d.word c.word b.word_is a.word_is)

  any_repeats : (c : Coded) (x : Stated) → IsCoded ws c x → (ds : List Coded) (ys : List Stated) → AreCoded ws ds ys → list_any (repeats_one c) ds ≡ list_any (faults.repeats_one x) ys
  any_repeats c x a [] [] b = refl
  any_repeats c x a [] (y ∷ ys) b = absurd b
  any_repeats c x a (d ∷ ds) [] b = absurd b
  any_repeats c x a (d ∷ ds) (y ∷ ys) b =
      ap (λ e. e || list_any (repeats_one c) ds) (one_repeats c d x y a b.0) ∙ ap (λ e. faults.repeats_one x y || e) (any_repeats c x a ds ys b.1)

  all_repeats : (ds : List Coded) (ys : List Stated) → AreCoded ws ds ys → (cs : List Coded) (xs : List Stated) → AreCoded ws cs xs → repeats ds cs ≡ faults.repeats ys xs
  all_repeats ds ys b [] [] a = refl
  all_repeats ds ys b [] (x ∷ xs) a = absurd a
  all_repeats ds ys b (c ∷ cs) [] a = absurd a
  all_repeats ds ys b (c ∷ cs) (x ∷ xs) a =
      ap (λ e. (if e then Twice c.place ∷ [] else []) ++ repeats (ds ++ c ∷ []) cs) (any_repeats c x a.0 ds ys b)
      ∙ ap (λ p. (if list_any (faults.repeats_one x) ys then Twice p ∷ [] else []) ++ repeats (ds ++ c ∷ []) cs) a.0.place_is
      ∙ ap (λ fs. (if list_any (faults.repeats_one x) ys then Twice x.name.place ∷ [] else []) ++ fs) (all_repeats (ds ++ c ∷ []) (ys ++ x ∷ []) (coded_push ws ds ys c x b a.0) cs xs a.1)

  pub repeats_are : (cs : List Coded) (xs : List Stated) → AreCoded ws cs xs → repeats [] cs ≡ faults.repeats [] xs
  repeats_are cs xs a = all_repeats [] [] tt cs xs a
