use Rattle.std.specs.Prelude.{if◌then◌else◌}
use Rattle.std.proofs.Common.{◌≡◌, ◌≢◌, ◌<◌, ◌≤◌, ◌+◌, ◌-◌, ◌++◌, [], ◌∷◌, ℕ, List, Bool, true, false, ◌&&◌, Some, None, length, map, take, get_or, sym, ap, ◌∙◌, refl, arith}
use Rattle.std.proofs.lemmas.List.{take_more, take_all, map-append}
use Rattle.std.proofs.lemmas.List.Folds.{list_all_at, list_all_more}
use Rattle.refutation_check.specs.Renumbering.{is_free, kept_number}
use Rattle.clause_pool.specs.Freeing.{new_number}
use Rattle.clause_pool.proofs.NewNumbers.{is_none, is_kept, is_number}
use Rattle.clause_pool.proofs.free.renumbered.Goals as goal

module _ (kept : List Bool) (hints : List ℕ) where
  abbrev new_hints : List ℕ → List ℕ
  new_hints hs = map (λ hint. kept_number hint kept) hs

  made_more : (i n : ℕ) (made : List ℕ) → i < length hints → n ≡ kept_number (get_or hints i 0) kept → made ≡ new_hints (take i hints) → made ++ n ∷ [] ≡ new_hints (take (i + 1) hints)
  made_more i n made l is before =
      ap (λ (ns : List ℕ). ns ++ n ∷ []) before ∙ ap (λ (m : ℕ). new_hints (take i hints) ++ m ∷ []) is ∙
      sym (ap new_hints (take_more hints i 0 l) ∙ map-append (λ hint. kept_number hint kept) (take i hints) (get_or hints i 0 ∷ []))

  free_more : (i : ℕ) → i < length hints → get_or kept (get_or hints i 0 - 1) false ≡ true → is_free kept (take i hints) ≡ true → is_free kept (take (i + 1) hints) ≡ true
  free_more i l here before =
      list_all_more (λ (hint : ℕ). get_or kept (hint - 1) false) hints i 0 l ∙ ap (λ (b : Bool). b && get_or kept (get_or hints i 0 - 1) false) before ∙ here

  made_all : (i : ℕ) (made : List ℕ) → length hints ≤ i → made ≡ new_hints (take i hints) → is_free kept (take i hints) ≡ true → Some made ≡ (if is_free kept hints then Some (new_hints hints) else None)
  made_all i made l before free =
      let all : take i hints ≡ hints = take_all i hints l in
      let whole : is_free kept hints ≡ true = ap (is_free kept) (sym all) ∙ free in
      ap (λ (ns : List ℕ). Some ns) (before ∙ ap new_hints all) ∙ ap (λ (b : Bool). if b then Some (new_hints hints) else None) (sym whole)

pub returns-in-0 : goal.returns-in-0
returns-in-0 c =
    let kept : List Bool = c.args.kept.now in
    let hints : List ℕ = c.args.hints.now in
    let i : ℕ = c.loop-hint.hint-index in
    let none : new_number kept (get_or hints i 0) ≡ 0 = sym c.new_number.ensures ∙ c.in-0.is in
    let left_out : get_or kept (get_or hints i 0 - 1) false ≡ false = is_none kept (get_or hints i 0) (c.requires i 0 c.loop-hint-test.true) none in
    let not_free : is_free kept hints ≡ false = list_all_at (λ (hint : ℕ). get_or kept (hint - 1) false) hints i 0 c.loop-hint-test.true left_out in
    rw not_free refl

pub loop-hint-init : goal.loop-hint-init
loop-hint-init c = record { made = c.in_ok-numbers.ensures.items; free = refl }

pub loop-hint-preserved : goal.loop-hint-preserved
loop-hint-preserved c =
    let kept : List Bool = c.args.kept.now in
    let hints : List ℕ = c.args.hints.now in
    let i : ℕ = c.loop-hint.hint-index in
    let hint : ℕ = get_or hints i 0 in
    let l = c.loop-hint-test.true in
    let inv = c.loop-hint.invariant in
    let named : c.new_number.result ≢ 0 = omega arith in
    let some : new_number kept hint ≢ 0 = λ none. named (c.new_number.ensures ∙ none) in
    record {
      made = c.in_ok-push-in_default.ensures.items ∙ made_more kept hints i c.new_number.result c.loop-hint.numbers.items l (c.new_number.ensures ∙ is_number kept hint (c.requires i 0 l) some) inv.made;
      free = free_more kept hints i l (is_kept kept hint (c.requires i 0 l) some) inv.free;
    }

pub returns : goal.returns
returns c =
    ap (λ (ns : List ℕ). Some ns) c.of.ensures ∙ made_all c.args.kept.now c.args.hints.now c.loop-hint.hint-index c.loop-hint.numbers.items c.loop-hint-test.false c.loop-hint.invariant.made c.loop-hint.invariant.free
