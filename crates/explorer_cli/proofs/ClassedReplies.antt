-- Lists by classes: the lines of replies, one reply more; the classes of a list at the bottom.
use Rattle.std.proofs.Common.{◌≡◌, ◌↔◌, ℕ, zero, suc, ◌+◌, ◌<◌, List, [], ◌∷◌, ◌++◌, take, length, get_or, Some, AllPairs, Contains, codes, refl, sym, ◌∙◌, ap, subst, arith, add-one, append_assoc}
use Rattle.std.proofs.lemmas.List.{append-nil}
use Rattle.rel_formula.specs.Bounds.{Bounded, IsProblem}
use Rattle.rel_formula.specs.Instance.{IsMinimalAbove}
use Rattle.rel_formula.specs.Renaming.{IsRenamingOf, IsSymmetric}
use Rattle.swap_symmetry.specs.Due.{IsDue}
use Rattle.renaming_classes.specs.Least.{IsLeast}
use Rattle.renaming_classes.specs.Classes.{AreClasses, AreMinimalUpToRenaming}
use Rattle.translation_rules.specs.Translation.{Translated}
use Rattle.session_rules.specs.declared.answers.Reply.{Reply}
use Rattle.session_rules.specs.declared.answers.Reply.TheVariants as reply
use Rattle.script_text.specs.Printed.{Printed, printed, all_printed}
use Rattle.explorer_cli.specs.Shown.{IsReplyAt}
use Rattle.explorer_cli.specs.Classes.{IsListByClass, IsClassedReply, AreClassedReplies, TellsClasses}

-- ---- one reply more

replies_suc : (p : Bounded) (t : Translated) (floors : List (List ℕ)) (xs : List Reply) (i : ℕ) (f : List ℕ) (x : Reply) (lines text : List ℕ) → i < length floors → i < length xs
    → AreClassedReplies p (take i floors) (all_printed t (take i floors) (take i xs)) lines → IsClassedReply p (get_or floors i f) (printed t (get_or floors i f) (get_or xs i x)) text
    → AreClassedReplies p (take (suc i) floors) (all_printed t (take (suc i) floors) (take (suc i) xs)) (lines ++ text)
replies_suc p t [] xs i f x lines text l m h is = absurd (omega arith)
replies_suc p t (g ∷ gs) [] i f x lines text l m h is = absurd (omega arith)
replies_suc p t (g ∷ gs) (y ∷ ys) zero f x lines text l m h is = (text, [], is, refl, ap (λ (ls : List ℕ). ls ++ text) h ∙ sym (append-nil text))
replies_suc p t (g ∷ gs) (y ∷ ys) (suc i) f x lines text l m h is =
    (h.0, h.1 ++ text, h.2, replies_suc p t gs ys i f x h.1 text (omega arith) (omega arith) h.3 is, ap (λ (ls : List ℕ). ls ++ text) h.4 ∙ append_assoc h.0 h.1 text)

pub replies_more : (p : Bounded) (t : Translated) (floors : List (List ℕ)) (xs : List Reply) (i : ℕ) (f : List ℕ) (x : Reply) (lines text : List ℕ) → i < length floors → i < length xs → x ≡ get_or xs i x
    → AreClassedReplies p (take i floors) (all_printed t (take i floors) (take i xs)) lines → IsClassedReply p (get_or floors i f) (printed t (get_or floors i f) x) text
    → AreClassedReplies p (take (i + 1) floors) (all_printed t (take (i + 1) floors) (take (i + 1) xs)) (lines ++ text)
replies_more p t floors xs i f x lines text l m e h is =
    subst (λ (k : ℕ). AreClassedReplies p (take k floors) (all_printed t (take k floors) (take k xs)) (lines ++ text)) (sym (add-one i))
    (replies_suc p t floors xs i f x lines text l m h (subst (λ (y : Reply). IsClassedReply p (get_or floors i f) (printed t (get_or floors i f) y) text) e is))

-- ---- the lines of one reply

same_reply : (x y : Reply) → Some x ≡ Some y → x ≡ y
same_reply x y e = cc

same_floor : (x y : List ℕ) → Some x ≡ Some y → x ≡ y
same_floor x y e = cc

regroup : (a b c d : List ℕ) → a ++ (b ++ c ++ d) ≡ (a ++ b) ++ c ++ d
regroup a b c d = simp append_assoc

-- the lines of the reply at a place stand among those of all
pub lines_at : (p : Bounded) (t : Translated) (floors : List (List ℕ)) (xs : List Reply) (lines : List ℕ) → AreClassedReplies p floors (all_printed t floors xs) lines
    → (place : ℕ) (r : Reply) (f : List ℕ) → IsReplyAt xs floors place r f
    → (before : List ℕ) × (own : List ℕ) × (behind : List ℕ) × IsClassedReply p f (printed t f r) own × (lines ≡ before ++ own ++ behind)
lines_at p t floors [] lines h place r f at = absurd (let e = at.0 in cc)
lines_at p t [] (y ∷ ys) lines h place r f at = absurd (let e = at.1 in cc)
lines_at p t (g ∷ gs) (y ∷ ys) lines h zero r f at =
    let here = subst (λ (x : Reply). IsClassedReply p g (printed t g x) h.0) (same_reply y r at.0) h.2 in
    ([], h.0, h.1, subst (λ (x : List ℕ). IsClassedReply p x (printed t x r) h.0) (same_floor g f at.1) here, h.4)
lines_at p t (g ∷ gs) (y ∷ ys) lines h (suc place) r f at =
    let found = lines_at p t gs ys h.1 h.3 place r f at in
    (h.0 ++ found.0, found.1, found.2, found.3, h.4 ∙ ap (λ (ls : List ℕ). h.0 ++ ls) found.4 ∙ regroup h.0 found.0 found.1 found.2)

-- ---- the classes of what is due at the bottom

-- what the laws of classes say, as they are used here
abbrev pub DueAreMinimal : Type 0
DueAreMinimal = (p : Bounded) → IsProblem p → IsSymmetric p → (all : List (List ℕ)) → ((s : List ℕ) → Contains all s ↔ IsDue p [] s) → AreMinimalUpToRenaming p all

abbrev pub ClassesAreExact : Type 0
ClassesAreExact = (p : Bounded) → IsProblem p → IsSymmetric p → (all found : List (List ℕ)) → AreMinimalUpToRenaming p all → AreClasses p all found
    → (t : List ℕ) → Contains found t ↔ (IsMinimalAbove p [] t × IsLeast p t)

abbrev pub ClassesAreApart : Type 0
ClassesAreApart = (p : Bounded) (all found : List (List ℕ)) → AreClasses p all found → AllPairs (λ t u. ¬ IsRenamingOf p t u) found

abbrev pub RenamingsGoOn : Type 0
RenamingsGoOn = (p : Bounded) (s t u : List ℕ) → IsRenamingOf p s t → IsRenamingOf p t u → IsRenamingOf p s u

pub tells_classes : DueAreMinimal → ClassesAreExact → ClassesAreApart → RenamingsGoOn → (p : Bounded) (scenarios : List (List ℕ)) (text : List ℕ) → IsProblem p → IsSymmetric p
    → ((s : List ℕ) → Contains scenarios s ↔ IsDue p [] s) → IsListByClass p scenarios text → TellsClasses p text
tells_classes minimal exact apart onward p scenarios text well symmetric due (members, classes, lines) =
    let all = minimal p well symmetric scenarios due in
    record {
      members = members;
      lines = lines;
      exactly = exact p well symmetric scenarios members all classes;
      apart = apart p scenarios members classes;
      sorted = classes.sorted;
      complete = λ x is.
          let near = all.complete x is in
          let member = classes.every near.0 near.1 in
          (member.0, member.1, onward p x near.0 member.0 near.2 member.2.renaming);
    }

-- the lines of a session have them
pub has_classes : (p : Bounded) (name before own behind lines text : List ℕ) → text ≡ codes "== " ++ name ++ codes "\n" ++ lines → lines ≡ before ++ own ++ behind
    → text ≡ (codes "== " ++ name ++ codes "\n" ++ before) ++ own ++ behind
has_classes p name before own behind lines text e f =
    e ∙ ap (λ (ls : List ℕ). codes "== " ++ name ++ codes "\n" ++ ls) f ∙ regroup (codes "== " ++ name ++ codes "\n") before own behind
