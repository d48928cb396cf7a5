-- Names that are declared, by numbers, as they come one by one.
use Rattle.std.proofs.Common.{◌≡◌, ℕ, suc, List, [], ◌∷◌, ◌++◌, Option, Some, None, sym, ◌∙◌, subst, append-nil}
use Rattle.alloy_syntax.specs.declared.tree.Name.{Name}
use Rattle.named_model.specs.Names.{number_of}
use Rattle.named_model.specs.Faults as faults
use Rattle.named_model.specs.Faults.{Child, Stated, global, field_under, assertions, parameters, top_of}
use Rattle.name_tables.specs.declared.repeated_names.stated.Space.{Space}
use Rattle.name_tables.specs.declared.repeated_names.stated.Space.TheVariants.{Global, Under, Loose, Assertions, Parameters}
use Rattle.name_tables.specs.declared.repeated_names.stated.Coded.{Coded}
use Rattle.name_tables.specs.declared.repeated_names.stated.Reading.{Reading}
use Rattle.name_tables.specs.Repeats.Numbered.{Grows, IsNumbered}
use Rattle.name_tables.specs.Repeats.Climbing.{top_in, AreParents}
use Rattle.name_tables.specs.Repeats.Coded.{space_under, space_of, IsSpace, AreSpaces, IsCoded, AreCoded, IsReading}
use Rattle.name_tables.proofs.Repeats.Numbers.{number_kept}
use Rattle.name_tables.proofs.Repeats.Parents.{links_kept, top_is}

-- ---- places

-- the five places that a name can be declared in
pub each_space : (ws : List (List ℕ)) (P : Space → faults.Space → Type 0) → P Global global → ((n : ℕ) (t : List ℕ) → number_of ws t ≡ Some n → P (Under n) (field_under (Some t))) → P Loose (field_under None)
    → P Assertions assertions → ((k l : ℕ) → k ≡ l → P (Parameters k) (parameters l)) → (s : Space) (t : faults.Space) → IsSpace ws s t → P s t
each_space ws P g u l a p Global global is = g
each_space ws P g u l a p Global (field_under o) is = absurd is
each_space ws P g u l a p Global assertions is = absurd is
each_space ws P g u l a p Global (parameters k) is = absurd is
each_space ws P g u l a p (Under n) global is = absurd is
each_space ws P g u l a p (Under n) (field_under (Some t)) is = u n t is
each_space ws P g u l a p (Under n) (field_under None) is = absurd is
each_space ws P g u l a p (Under n) assertions is = absurd is
each_space ws P g u l a p (Under n) (parameters k) is = absurd is
each_space ws P g u l a p Loose global is = absurd is
each_space ws P g u l a p Loose (field_under (Some t)) is = absurd is
each_space ws P g u l a p Loose (field_under None) is = l
each_space ws P g u l a p Loose assertions is = absurd is
each_space ws P g u l a p Loose (parameters k) is = absurd is
each_space ws P g u l a p Assertions global is = absurd is
each_space ws P g u l a p Assertions (field_under o) is = absurd is
each_space ws P g u l a p Assertions assertions is = a
each_space ws P g u l a p Assertions (parameters k) is = absurd is
each_space ws P g u l a p (Parameters j) global is = absurd is
each_space ws P g u l a p (Parameters j) (field_under o) is = absurd is
each_space ws P g u l a p (Parameters j) assertions is = absurd is
each_space ws P g u l a p (Parameters j) (parameters k) is = p j k is

space_kept : (old new : List (List ℕ)) (s : Space) (t : faults.Space) → Grows old new → IsSpace old s t → IsSpace new s t
space_kept old new s t grows is =
    each_space old (λ s t. IsSpace new s t) tt
    (λ n t e. subst (λ ws. number_of ws t ≡ Some n) (sym grows.1) (number_kept old grows.0 t n e))
    tt tt (λ k l e. e) s t is

pub spaces_kept : (old new : List (List ℕ)) (ss : List Space) (ts : List faults.Space) → Grows old new → AreSpaces old ss ts → AreSpaces new ss ts
spaces_kept old new [] [] grows a = tt
spaces_kept old new [] (t ∷ ts) grows a = absurd a
spaces_kept old new (s ∷ ss) [] grows a = absurd a
spaces_kept old new (s ∷ ss) (t ∷ ts) grows a = (space_kept old new s t grows a.0, spaces_kept old new ss ts grows a.1)

pub spaces_push : (ws : List (List ℕ)) (ss : List Space) (ts : List faults.Space) (s : Space) (t : faults.Space) → AreSpaces ws ss ts → IsSpace ws s t → AreSpaces ws (ss ++ s ∷ []) (ts ++ t ∷ [])
spaces_push ws [] [] s t a one = (one, tt)
spaces_push ws [] (u ∷ ts) s t a one = absurd a
spaces_push ws (r ∷ ss) [] s t a one = absurd a
spaces_push ws (r ∷ ss) (u ∷ ts) s t a one = (a.0, spaces_push ws ss ts s t a.1 one)

-- the place of the fields of a signature, by the number of its top-level signature
pub under_is : (ws : List (List ℕ)) (o : Option ℕ) (t : Option (List ℕ)) → IsNumbered ws o t → IsSpace ws (space_under o) (field_under t)
under_is ws (Some n) (Some t) e = e
under_is ws (Some n) None e = absurd e
under_is ws None (Some t) e = absurd e
under_is ws None None e = tt

-- ---- names

coded_kept : (old new : List (List ℕ)) (cs : List Coded) (xs : List Stated) → Grows old new → AreCoded old cs xs → AreCoded new cs xs
coded_kept old new [] [] grows a = tt
coded_kept old new [] (x ∷ xs) grows a = absurd a
coded_kept old new (c ∷ cs) [] grows a = absurd a
coded_kept old new (c ∷ cs) (x ∷ xs) grows a = (
  record {
    space_is = space_kept old new c.space x.space grows a.0.space_is;
    word_is = subst (λ ws. number_of ws x.name.text ≡ Some c.word) (sym grows.1) (number_kept old grows.0 x.name.text c.word a.0.word_is);
    place_is = a.0.place_is;
  },
  coded_kept old new cs xs grows a.1,
)

pub coded_push : (ws : List (List ℕ)) (cs : List Coded) (xs : List Stated) (c : Coded) (x : Stated) → AreCoded ws cs xs → IsCoded ws c x → AreCoded ws (cs ++ c ∷ []) (xs ++ x ∷ [])
coded_push ws [] [] c x a one = (one, tt)
coded_push ws [] (y ∷ xs) c x a one = absurd a
coded_push ws (d ∷ cs) [] c x a one = absurd a
coded_push ws (d ∷ cs) (y ∷ xs) c x a one = (a.0, coded_push ws cs xs c x a.1 one)

-- ---- what is read

-- more texts are met
pub reading_kept : (cs : List Child) (old new : Reading) (before : List Stated) → Grows old.words new.words → new.parents ≡ old.parents → new.coded.items ≡ old.coded.items → IsReading cs old before → IsReading cs new before
reading_kept cs old new before grows parents coded is = record {
  links = is.links;
  links_are = links_kept old.words new.words is.links cs grows is.links_are;
  parents_are = subst (λ p. AreParents is.links p) (sym parents) is.parents_are;
  coded_are = subst (λ c. AreCoded new.words c before) (sym coded) (coded_kept old.words new.words old.coded.items before grows is.coded_are);
}

-- the same before any field of a name
pub reading_start : (cs : List Child) (old new : Reading) (before : List Stated) → Grows old.words new.words → new.parents ≡ old.parents → new.coded.items ≡ old.coded.items → IsReading cs old before → IsReading cs new (before ++ [])
reading_start cs old new before grows parents coded is = subst (λ xs. IsReading cs new xs) (sym (append-nil before)) (reading_kept cs old new before grows parents coded is)

-- a name more
pub reading_more : (cs : List Child) (old new : Reading) (before : List Stated) (c : Coded) (x : Stated) → Grows old.words new.words → new.parents ≡ old.parents → new.coded.items ≡ old.coded.items ++ c ∷ [] → IsCoded new.words c x
    → IsReading cs old before → IsReading cs new (before ++ x ∷ [])
reading_more cs old new before c x grows parents coded one is = record {
  links = is.links;
  links_are = links_kept old.words new.words is.links cs grows is.links_are;
  parents_are = subst (λ p. AreParents is.links p) (sym parents) is.parents_are;
  coded_are = subst (λ cs. AreCoded new.words cs (before ++ x ∷ [])) (sym coded) (coded_push new.words old.coded.items before c x (coded_kept old.words new.words old.coded.items before grows is.coded_are) one);
}

-- the place of the fields of a signature
pub place_found : (cs : List Child) (r : Reading) (before : List Stated) (owner : Name) (w : ℕ) → IsReading cs r before → number_of r.words owner.text ≡ Some w
    → IsSpace r.words (space_under (top_in r.parents.table.items (suc r.parents.count) w)) (space_of cs owner)
place_found cs r before owner w is e = under_is r.words (top_in r.parents.table.items (suc r.parents.count) w) (top_of cs owner.text) (top_is r.words is.links cs r.parents is.links_are is.parents_are w owner.text e)

-- a name that is met, and put behind the others
pub name_added : (cs : List Child) (old new : Reading) (before : List Stated) (c : Coded) (x : Stated) → new.words ≡ old.words ++ x.name.text ∷ [] → new.parents ≡ old.parents → new.coded.items ≡ old.coded.items ++ c ∷ []
    → IsSpace new.words c.space x.space → number_of new.words x.name.text ≡ Some c.word → c.place ≡ x.name.place → IsReading cs old before → IsReading cs new (before ++ x ∷ [])
name_added cs old new before c x words parents coded space word place is =
    reading_more cs old new before c x (x.name.text ∷ [], words) parents coded (record { space_is = space; word_is = word; place_is = place }) is

-- a field more of a name that was met
pub field_added : (cs : List Child) (old new : Reading) (before : List Stated) (c : Coded) (x : Stated) → new.words ≡ old.words → new.parents ≡ old.parents → new.coded.items ≡ old.coded.items ++ c ∷ []
    → IsSpace new.words c.space x.space → number_of new.words x.name.text ≡ Some c.word → c.place ≡ x.name.place → IsReading cs old before → IsReading cs new (before ++ x ∷ [])
field_added cs old new before c x words parents coded space word place is =
    reading_more cs old new before c x ([], words ∙ sym (append-nil old.words)) parents coded (record { space_is = space; word_is = word; place_is = place }) is
