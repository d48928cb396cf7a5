-- From the text of replies one can read what they print.
use Rattle.std.proofs.Common.{◌≡◌, ◌≢◌, ◌⊎◌, inl, inr, ◌<◌, ◌≤◌, ◌^◌, ◌+◌, ℕ, zero, suc, List, [], ◌∷◌, ◌++◌, length, codes, decimal, flat_map, get_or, slice_get, Some, refl, sym, ap, subst, ◌∙◌, arith, append_assoc}
use Rattle.std.specs.List.{AllByRecursion, AllZip}
use Rattle.std.proofs.lemmas.List.{append_cancel_left}
use Rattle.std.proofs.lemmas.List.Elements.{recursion_from_All}
use Rattle.cnf_core.specs.declared.literal.Lit.{Lit}
use Rattle.refutation_check.specs.declared.log.Step.{Step as LogStep}
use Rattle.refutation_check.specs.ProofText.{IsDigit}
use Rattle.refutation_check.specs.WrittenProof.{proof_text}
use Rattle.rel_formula.specs.declared.problem.Cell.{Cell}
use Rattle.rel_formula.specs.Bounds.{Bounded, relation_at, cell_of, cells_of}
use Rattle.rel_formula.specs.Instance.{IsScenario}
use Rattle.rel_formula.proofs.OpenCells.{cell_open, cell_once}
use Rattle.std.proofs.lemmas.Option.{slice_get-get_or}
use Rattle.tuple_core.specs.declared.atom.Atom.{Atom}
use Rattle.script_text.specs.Lines.{tuple_text}
use Rattle.session_words.specs.declared.steps.Step.TheVariants as step
use Rattle.session_words.specs.declared.commands.Command.{Command}
use Rattle.session_words.specs.declared.commands.Command.TheVariants as command
use Rattle.script_text.specs.Printed.{Printed, shown, ended, offered, augmented, back, budget_set, listed, partly, proved, refused, no_memory}
use Rattle.script_text.specs.Printable.{IsWritable, Answers, MayPrint, IsProper}
use Rattle.script_text.specs.Replies.{IsScenarioText, AreNumbered, cell_line, IsReplyText, AreReplyTexts}
use Rattle.script_text.proofs.Cuts.{head_is, tail_is, same_front, same_number, Begins, group3, group4, group5}
use Rattle.script_text.proofs.ProofLineTexts.{same_proof}
use Rattle.script_text.proofs.RelationLineTexts.{IsTuple, name_plain, one_relation, same_tuple}
use Rattle.script_text.proofs.ScenarioLineTexts.{tuple_fits, same_scenario}

feed_other : ¬ IsDigit 10
feed_other d = let l = d.0 in absurd (omega arith)

-- ---- a word and a number

heading_is : (word : List ℕ) (n : ℕ) (rest x : List ℕ) → (word ++ decimal n ++ codes "\n" ++ rest) ++ x ≡ word ++ (decimal n ++ 10 ∷ (rest ++ x))
heading_is word n rest x = group4 word (decimal n) (codes "\n") rest x

same_heading : (word : List ℕ) (m n : ℕ) (x y : List ℕ) → m < 2 ^ 64 → n < 2 ^ 64 → word ++ (decimal m ++ 10 ∷ x) ≡ word ++ (decimal n ++ 10 ∷ y) → (m ≡ n) × (x ≡ y)
same_heading word m n x y l k e =
    let cut = same_number m n 10 10 x y l k feed_other feed_other (append_cancel_left word (decimal m ++ 10 ∷ x) (decimal n ++ 10 ∷ y) e) in
    (cut.0, tail_is 10 10 x y cut.1)

-- where nothing stands behind the line
last_is : (word : List ℕ) (n : ℕ) (x : List ℕ) → (word ++ decimal n ++ codes "\n") ++ x ≡ word ++ (decimal n ++ 10 ∷ x)
last_is word n x = group3 word (decimal n) (codes "\n") x

same_last : (word : List ℕ) (m n : ℕ) (t u x y : List ℕ) → m < 2 ^ 64 → n < 2 ^ 64 → t ≡ word ++ decimal m ++ codes "\n" → u ≡ word ++ decimal n ++ codes "\n" → t ++ x ≡ u ++ y → (m ≡ n) × (x ≡ y)
same_last word m n t u x y l k is_t is_u e =
    same_heading word m n x y l k (sym (last_is word m x) ∙ ap (λ (z : List ℕ). z ++ x) (sym is_t) ∙ e ∙ ap (λ (z : List ℕ). z ++ y) is_u ∙ last_is word n y)

same_words : (t u w x y : List ℕ) → t ≡ w → u ≡ w → t ++ x ≡ u ++ y → x ≡ y
same_words t u w x y is_t is_u e = append_cancel_left w x y (ap (λ (z : List ℕ). z ++ x) (sym is_t) ∙ e ∙ ap (λ (z : List ℕ). z ++ y) is_u)

scenarios_are : (s t : List ℕ) (ss ts : List (List ℕ)) → s ≡ t → ss ≡ ts → s ∷ ss ≡ t ∷ ts
scenarios_are s t ss ts e f = ap (λ (z : List ℕ). z ∷ ss) e ∙ ap (λ (zs : List (List ℕ)). t ∷ zs) f

-- ---- scenarios

module _ (p : Bounded) (writable : IsWritable p) where
  same_shown : (m n : ℕ) (s t lines others x y : List ℕ) (tx ty : List ℕ) → m < 2 ^ 64 → n < 2 ^ 64 → IsScenario p s → IsScenario p t → IsScenarioText p s lines → IsScenarioText p t others
      → (word : List ℕ) → tx ≡ word ++ decimal m ++ codes "\n" ++ lines → ty ≡ word ++ decimal n ++ codes "\n" ++ others → tx ++ x ≡ ty ++ y → (m ≡ n) × (s ≡ t) × (x ≡ y)
  same_shown m n s t lines others x y tx ty l k is_s is_t a b word ex ey e =
      let headed = same_heading word m n (lines ++ x) (others ++ y) l k
      (sym (heading_is word m lines x) ∙ ap (λ (z : List ℕ). z ++ x) (sym ex) ∙ e ∙ ap (λ (z : List ℕ). z ++ y) ey ∙ heading_is word n others y) in
      let cut = same_scenario p writable s t lines others x y is_s is_t a b headed.1 in
      (headed.0, cut.0, cut.1)

  -- numbered scenarios before a line that begins with another byte
  same_numbered : (first other : ℕ) (word : List ℕ) (m n : ℕ) (ss ts : List (List ℕ)) (lines others x y : List ℕ) → first ≢ other → m + length ss < 2 ^ 64 → n + length ts < 2 ^ 64
      → AllByRecursion (IsScenario p) ss → AllByRecursion (IsScenario p) ts → AreNumbered p (first ∷ word) m ss lines → AreNumbered p (first ∷ word) n ts others
      → lines ++ other ∷ x ≡ others ++ other ∷ y → (ss ≡ ts) × (x ≡ y)
  same_numbered first other word m n [] [] lines others x y apart l k is_s is_t a b e =
      (refl, tail_is other other x y (ap (λ (z : List ℕ). z ++ other ∷ x) (sym a) ∙ e ∙ ap (λ (z : List ℕ). z ++ other ∷ y) b))
  same_numbered first other word m n [] (t ∷ ts) lines others x y apart l k is_s is_t a b e =
      absurd (apart (sym (head_is other first x ((word ++ decimal n ++ codes "\n" ++ b.0 ++ b.1) ++ other ∷ y) (ap (λ (z : List ℕ). z ++ other ∷ x) (sym a) ∙ e ∙ ap (λ (z : List ℕ). z ++ other ∷ y) b.4))))
  same_numbered first other word m n (s ∷ ss) [] lines others x y apart l k is_s is_t a b e =
      absurd (apart (head_is first other ((word ++ decimal m ++ codes "\n" ++ a.0 ++ a.1) ++ other ∷ x) y (ap (λ (z : List ℕ). z ++ other ∷ x) (sym a.4) ∙ e ∙ ap (λ (z : List ℕ). z ++ other ∷ y) b)))
  same_numbered first other word m n (s ∷ ss) (t ∷ ts) lines others x y apart l k is_s is_t a b e =
      let mark = first ∷ word in
      let front : (k : ℕ) (ls os z : List ℕ) → (mark ++ decimal k ++ codes "\n" ++ ls ++ os) ++ z ≡ mark ++ (decimal k ++ 10 ∷ (ls ++ (os ++ z))) = λ k ls os z. group5 mark (decimal k) (codes "\n") ls os z in
      let headed = same_heading mark m n (a.0 ++ (a.1 ++ other ∷ x)) (b.0 ++ (b.1 ++ other ∷ y)) (omega arith) (omega arith)
      (sym (front m a.0 a.1 (other ∷ x)) ∙ ap (λ (z : List ℕ). z ++ other ∷ x) (sym a.4) ∙ e ∙ ap (λ (z : List ℕ). z ++ other ∷ y) b.4 ∙ front n b.0 b.1 (other ∷ y)) in
      let cut = same_scenario p writable s t a.0 b.0 (a.1 ++ other ∷ x) (b.1 ++ other ∷ y) is_s.0 is_t.0 a.2 b.2 headed.1 in
      let rest = same_numbered first other word (m + 1) (n + 1) ss ts a.1 b.1 x y apart (omega arith) (omega arith) is_s.1 is_t.1 a.3 b.3 cut.1 in
      (scenarios_are s t ss ts cut.0 rest.0, rest.1)

  -- the first of numbered scenarios has the number of the list
  same_first : (word : List ℕ) (m n : ℕ) (s t : List ℕ) (ss ts : List (List ℕ)) (lines others x y : List ℕ) → m < 2 ^ 64 → n < 2 ^ 64 → AreNumbered p word m (s ∷ ss) lines → AreNumbered p word n (t ∷ ts) others
      → lines ++ x ≡ others ++ y → m ≡ n
  same_first word m n s t ss ts lines others x y l k a b e =
      (same_heading word m n (a.0 ++ (a.1 ++ x)) (b.0 ++ (b.1 ++ y)) l k
      (sym (group5 word (decimal m) (codes "\n") a.0 a.1 x) ∙ ap (λ (z : List ℕ). z ++ x) (sym a.4) ∙ e ∙ ap (λ (z : List ℕ). z ++ y) b.4 ∙ group5 word (decimal n) (codes "\n") b.0 b.1 y)).0

  -- ---- replies: what one text can be read firsts

  -- of two replies with these texts, and something behind them, both are the same
  abbrev Same : Printed → Printed → Type 0
  Same a b = (ta tb x y : List ℕ) → IsProper p a → IsProper p b → IsReplyText p a ta → IsReplyText p b tb → ta ++ x ≡ tb ++ y → (a ≡ b) × (x ≡ y)

  -- the first byte of a reply's text; a list of scenarios that is told in parts isn't empty
  abbrev first_byte : Printed → ℕ
  first_byte (shown n s) = 115
  first_byte (ended n) = 101
  first_byte (offered cells) = 111
  first_byte augmented = 97
  first_byte back = 98
  first_byte (budget_set n) = 98
  first_byte (listed []) = 101
  first_byte (listed (s ∷ ss)) = 108
  first_byte (partly first []) = 112
  first_byte (partly first (s ∷ ss)) = 115
  first_byte (proved clauses log) = 112
  first_byte (refused words) = 114
  first_byte no_memory = 109

  abbrev BeginsWith : ℕ → List ℕ → Type 0
  BeginsWith b text = (rest : List ℕ) × (text ≡ b ∷ rest)

  with_more : (b : ℕ) (t u x : List ℕ) → t ≡ b ∷ u → BeginsWith b (t ++ x)
  with_more b t u x e = (u ++ x, ap (λ (z : List ℕ). z ++ x) e)

  begins : (r : Printed) (t x : List ℕ) → IsReplyText p r t → BeginsWith (first_byte r) (t ++ x)
  begins (shown n s) t x is = with_more 115 t _ x is.2
  begins (ended n) t x is = with_more 101 t _ x is
  begins (offered cells) t x is = with_more 111 t _ x is
  begins augmented t x is = with_more 97 t _ x is
  begins back t x is = with_more 98 t _ x is
  begins (budget_set n) t x is = with_more 98 t _ x is
  begins (listed []) t x is = with_more 101 t _ x (is.2 ∙ ap (λ (z : List ℕ). z ++ codes "end " ++ decimal 0 ++ codes "\n") is.1)
  begins (listed (s ∷ ss)) t x is = with_more 108 t _ x (is.2 ∙ ap (λ (z : List ℕ). z ++ codes "end " ++ decimal (length (s ∷ ss)) ++ codes "\n") is.1.4)
  begins (partly first []) t x is = with_more 112 t _ x (is.2 ∙ ap (λ (z : List ℕ). z ++ codes "partly " ++ decimal 0 ++ codes "\n") is.1)
  begins (partly first (s ∷ ss)) t x is = with_more 115 t _ x (is.2 ∙ ap (λ (z : List ℕ). z ++ codes "partly " ++ decimal (length (s ∷ ss)) ++ codes "\n") is.1.4)
  begins (proved clauses log) t x is = with_more 112 t _ x is
  begins (refused words) t x is = with_more 114 t _ x is
  begins no_memory t x is = with_more 109 t _ x is

  same_byte : (a b : Printed) (ta tb x y : List ℕ) → IsReplyText p a ta → IsReplyText p b tb → ta ++ x ≡ tb ++ y → first_byte a ≡ first_byte b
  same_byte a b ta tb x y is_a is_b e =
      let f = begins a ta x is_a in
      let g = begins b tb y is_b in
      head_is (first_byte a) (first_byte b) f.0 g.0 (sym f.1 ∙ e ∙ g.1)

  apart : (a b : Printed) → first_byte a ≢ first_byte b → Same a b
  apart a b differ ta tb x y pa pb is_a is_b e = absurd (differ (same_byte a b ta tb x y is_a is_b e))

  two_shown : (m n : ℕ) (s t : List ℕ) → Same (shown m s) (shown n t)
  two_shown m n s t ta tb x y pa pb is_a is_b e =
      let cut = same_shown m n s t is_a.0 is_b.0 x y ta tb pa.0 pb.0 pa.1 pb.1 is_a.1 is_b.1 (codes "scenario ") is_a.2 is_b.2 e in
      (ap (λ (k : ℕ). shown k s) cut.0 ∙ ap (λ (z : List ℕ). shown n z) cut.1, cut.2)

  two_ended : (m n : ℕ) → Same (ended m) (ended n)
  two_ended m n ta tb x y pa pb is_a is_b e = let cut = same_last (codes "end ") m n ta tb x y pa pb is_a is_b e in (ap ended cut.0, cut.1)

  two_budgets : (m n : ℕ) → Same (budget_set m) (budget_set n)
  two_budgets m n ta tb x y pa pb is_a is_b e = let cut = same_last (codes "budget ") m n ta tb x y pa pb is_a is_b e in (ap budget_set cut.0, cut.1)

  two_refused : (v w : List ℕ) → Same (refused v) (refused w)
  two_refused v w ta tb x y pa pb is_a is_b e =
      let front : (w z : List ℕ) → (codes "refused " ++ w ++ codes "\n") ++ z ≡ codes "refused " ++ (w ++ 10 ∷ z) = λ w z. group3 (codes "refused ") w (codes "\n") z in
      let bare = append_cancel_left (codes "refused ") (v ++ 10 ∷ x) (w ++ 10 ∷ y) (sym (front v x) ∙ ap (λ (z : List ℕ). z ++ x) (sym is_a) ∙ e ∙ ap (λ (z : List ℕ). z ++ y) is_b ∙ front w y) in
      let cut = same_front (λ b. b ≢ 10) v w 10 10 x y (recursion_from_All (λ b. b ≢ 10) v pa) (recursion_from_All (λ b. b ≢ 10) w pb) (λ no. no refl) (λ no. no refl) bare in
      (ap refused cut.0, tail_is 10 10 x y cut.1)

  two_listed : (ss ts : List (List ℕ)) → Same (listed ss) (listed ts)
  two_listed ss ts ta tb x y pa pb is_a is_b e =
      let front : (k : ℕ) (ls z : List ℕ) → (ls ++ codes "end " ++ decimal k ++ codes "\n") ++ z ≡ ls ++ 101 ∷ (codes "nd " ++ (decimal k ++ 10 ∷ z)) = λ k ls z. group4 ls (codes "end ") (decimal k) (codes "\n") z in
      let m = length ss in
      let n = length ts in
      let cut = same_numbered 108 101 (codes "isted ") 1 1 ss ts is_a.0 is_b.0 (codes "nd " ++ (decimal m ++ 10 ∷ x)) (codes "nd " ++ (decimal n ++ 10 ∷ y)) (λ no. omega (arith, no)) (omega (arith, pa.1)) (omega (arith, pb.1)) (recursion_from_All (IsScenario p) ss pa.0) (recursion_from_All (IsScenario p) ts pb.0) is_a.1 is_b.1
      (sym (front m is_a.0 x) ∙ ap (λ (z : List ℕ). z ++ x) (sym is_a.2) ∙ e ∙ ap (λ (z : List ℕ). z ++ y) is_b.2 ∙ front n is_b.0 y) in
      let last = same_heading (codes "nd ") m n x y (omega (arith, pa.1)) (omega (arith, pb.1)) cut.1 in
      (ap listed cut.0, last.1)

  two_partly : (f g : ℕ) (s t : List ℕ) (ss ts : List (List ℕ)) → Same (partly f (s ∷ ss)) (partly g (t ∷ ts))
  two_partly f g s t ss ts ta tb x y pa pb is_a is_b e =
      let front : (k : ℕ) (ls z : List ℕ) → (ls ++ codes "partly " ++ decimal k ++ codes "\n") ++ z ≡ ls ++ 112 ∷ (codes "artly " ++ (decimal k ++ 10 ∷ z)) = λ k ls z. group4 ls (codes "partly ") (decimal k) (codes "\n") z in
      let m = length (s ∷ ss) in
      let n = length (t ∷ ts) in
      let behind_a = codes "artly " ++ (decimal m ++ 10 ∷ x) in
      let behind_b = codes "artly " ++ (decimal n ++ 10 ∷ y) in
      let bare : is_a.0 ++ 112 ∷ behind_a ≡ is_b.0 ++ 112 ∷ behind_b = sym (front m is_a.0 x) ∙ ap (λ (z : List ℕ). z ++ x) (sym is_a.2) ∙ e ∙ ap (λ (z : List ℕ). z ++ y) is_b.2 ∙ front n is_b.0 y in
      let first = same_first (codes "scenario ") f g s t ss ts is_a.0 is_b.0 (112 ∷ behind_a) (112 ∷ behind_b) (omega (arith, pa.0)) (omega (arith, pb.0)) is_a.1 is_b.1 bare in
      let cut = same_numbered 115 112 (codes "cenario ") f g (s ∷ ss) (t ∷ ts) is_a.0 is_b.0 behind_a behind_b (λ no. omega (arith, no)) (omega (arith, pa.0, pa.1)) (omega (arith, pb.0, pb.1)) (recursion_from_All (IsScenario p) (s ∷ ss) pa.2) (recursion_from_All (IsScenario p) (t ∷ ts) pb.2) is_a.1 is_b.1 bare in
      let last = same_heading (codes "artly ") m n x y (omega (arith, pa.1)) (omega (arith, pb.1)) cut.1 in
      (ap (λ (k : ℕ). partly k (s ∷ ss)) first ∙ ap (λ (zs : List (List ℕ)). partly g zs) cut.0, last.1)

  two_proved : (cs ds : List (List Lit)) (ss ts : List LogStep) → Same (proved cs ss) (proved ds ts)
  two_proved cs ds ss ts ta tb x y pa pb is_a is_b e =
      let headed = same_heading (codes "proof ") (length cs + length ss) (length ds + length ts) (proof_text cs ss ++ x) (proof_text ds ts ++ y) pa.0 pb.0
      (sym (heading_is (codes "proof ") (length cs + length ss) (proof_text cs ss) x) ∙ ap (λ (z : List ℕ). z ++ x) (sym is_a) ∙ e ∙ ap (λ (z : List ℕ). z ++ y) is_b ∙ heading_is (codes "proof ") (length ds + length ts) (proof_text ds ts) y) in
      let cut = same_proof cs ds ss ts x y headed.0 pa.1 pb.1 pa.2 pb.2 headed.1 in
      (ap (λ (zs : List (List Lit)). proved zs ss) cut.0 ∙ ap (λ (zs : List LogStep). proved ds zs) cut.1, cut.2)

  -- ---- cells

  abbrev cells_text : List ℕ → List ℕ
  cells_text ks = flat_map (cell_line p) ks

  abbrev cell_at : ℕ → Cell
  cell_at n = get_or (cells_of p) n (cell_of 0 [])

  line_front : (n : ℕ) (x : List ℕ) → cell_line p n ++ x ≡ (relation_at p.relations (cell_at n).relation).name ++ 32 ∷ (tuple_text p (cell_at n).tuple ++ 10 ∷ x)
  line_front n x = group4 (relation_at p.relations (cell_at n).relation).name (codes " ") (tuple_text p (cell_at n).tuple) (codes "\n") x

  same_cell : (m n : ℕ) (x y : List ℕ) → m < length (cells_of p) → n < length (cells_of p) → cell_line p m ++ x ≡ cell_line p n ++ y → (m ≡ n) × (x ≡ y)
  same_cell m n x y l k e =
      let c = cell_at m in
      let d = cell_at n in
      let at_m : slice_get (cells_of p) m ≡ Some (cell_of c.relation c.tuple) = slice_get-get_or (cells_of p) m (cell_of 0 []) l in
      let at_n : slice_get (cells_of p) n ≡ Some (cell_of d.relation d.tuple) = slice_get-get_or (cells_of p) n (cell_of 0 []) k in
      let stands_m = cell_open p m c.relation c.tuple at_m in
      let stands_n = cell_open p n d.relation d.tuple at_n in
      let front = same_front (λ b. b ≢ 32) (relation_at p.relations c.relation).name (relation_at p.relations d.relation).name 32 32 (tuple_text p c.tuple ++ 10 ∷ x) (tuple_text p d.tuple ++ 10 ∷ y)
      (name_plain p writable c.relation stands_m.0) (name_plain p writable d.relation stands_n.0) (λ no. no refl) (λ no. no refl) (sym (line_front m x) ∙ e ∙ line_front n y) in
      let relation : c.relation ≡ d.relation = one_relation p writable c.relation d.relation stands_m.0 stands_n.0 front.0 in
      let fits_m = tuple_fits p writable c.relation c.tuple stands_m.0 stands_m.1 in
      let fits_n = subst (λ (r : ℕ). IsTuple p (relation_at p.relations r).lower.arity d.tuple) (sym relation) (tuple_fits p writable d.relation d.tuple stands_n.0 stands_n.1) in
      let feed : (z : List ℕ) → Begins (10 ∷ z) = λ z. record { first = 10; others = z; is = refl; other = feed_other } in
      let tuple = same_tuple p writable (relation_at p.relations c.relation).lower.arity c.tuple d.tuple (10 ∷ x) (10 ∷ y) fits_m fits_n (feed x) (feed y) (tail_is 32 32 (tuple_text p c.tuple ++ 10 ∷ x) (tuple_text p d.tuple ++ 10 ∷ y) front.1) in
      let here : slice_get (cells_of p) m ≡ Some (cell_of d.relation d.tuple) = at_m ∙ ap (λ (r : ℕ). Some (cell_of r c.tuple)) relation ∙ ap (λ (t : List Atom). Some (cell_of d.relation t)) tuple.0 in
      (cell_once p m n d.relation d.tuple writable.problem here at_n, tail_is 10 10 x y tuple.1)

  numbers_are : (m n : ℕ) (ms ns : List ℕ) → m ≡ n → ms ≡ ns → m ∷ ms ≡ n ∷ ns
  numbers_are m n ms ns e f = cc

  same_cells : (ms ns : List ℕ) (x y : List ℕ) → length ms ≡ length ns → AllByRecursion (λ n. n < length (cells_of p)) ms → AllByRecursion (λ n. n < length (cells_of p)) ns → cells_text ms ++ x ≡ cells_text ns ++ y → (ms ≡ ns) × (x ≡ y)
  same_cells [] [] x y l a b e = (refl, e)
  same_cells [] (n ∷ ns) x y l a b e = absurd (omega arith)
  same_cells (m ∷ ms) [] x y l a b e = absurd (omega arith)
  same_cells (m ∷ ms) (n ∷ ns) x y l a b e =
      let bare = sym (append_assoc (cell_line p m) (cells_text ms) x) ∙ e ∙ append_assoc (cell_line p n) (cells_text ns) y in
      let first = same_cell m n (cells_text ms ++ x) (cells_text ns ++ y) a.0 b.0 bare in
      let rest = same_cells ms ns x y (omega arith) a.1 b.1 first.1 in
      (numbers_are m n ms ns first.0 rest.0, rest.1)

  two_offered : (ms ns : List ℕ) → Same (offered ms) (offered ns)
  two_offered ms ns ta tb x y pa pb is_a is_b e =
      let headed = same_heading (codes "offers ") (length ms) (length ns) (cells_text ms ++ x) (cells_text ns ++ y) pa.1 pb.1
      (sym (heading_is (codes "offers ") (length ms) (cells_text ms) x) ∙ ap (λ (z : List ℕ). z ++ x) (sym is_a) ∙ e ∙ ap (λ (z : List ℕ). z ++ y) is_b ∙ heading_is (codes "offers ") (length ns) (cells_text ns) y) in
      let cut = same_cells ms ns x y headed.0 (recursion_from_All (λ n. n < length (cells_of p)) ms pa.0) (recursion_from_All (λ n. n < length (cells_of p)) ns pb.0) headed.1 in
      (ap offered cut.0, cut.1)

  two_words : (r : Printed) (word : List ℕ) → ((t : List ℕ) → IsReplyText p r t → t ≡ word) → Same r r
  two_words r word says ta tb x y pa pb is_a is_b e = (refl, same_words ta tb word x y (says ta is_a) (says tb is_b) e)

  -- ---- what a command may print

  along : (a b c d : Printed) → a ≡ c → b ≡ d → Same c d → Same a b
  along a b c d e f same = subst (λ (z : Printed). Same z b) (sym e) (subst (λ (z : Printed). Same c z) (sym f) same)

  abbrev IsRefusal : Printed → Type 0
  IsRefusal r = ((words : List ℕ) × (r ≡ refused words)) ⊎ (r ≡ no_memory)

  abbrev IsOther : Printed → Type 0
  IsOther r = (first_byte r ≢ 114) × (first_byte r ≢ 109)

  two_refusals : (a b : Printed) → IsRefusal a → IsRefusal b → Same a b
  two_refusals a b (inl v) (inl w) = along a b (refused v.0) (refused w.0) v.1 w.1 (two_refused v.0 w.0)
  two_refusals a b (inl v) (inr w) = along a b (refused v.0) no_memory v.1 w (apart (refused v.0) no_memory (λ e. omega (arith, e)))
  two_refusals a b (inr v) (inl w) = along a b no_memory (refused w.0) v w.1 (apart no_memory (refused w.0) (λ e. omega (arith, e)))
  two_refusals a b (inr v) (inr w) = along a b no_memory no_memory v w (two_words no_memory (codes "memory\n") (λ t is. is))

  other_first : (a b : Printed) → IsOther a → IsRefusal b → Same a b
  other_first a b other (inl w) = apart a b (λ e. other.0 (e ∙ ap first_byte w.1))
  other_first a b other (inr w) = apart a b (λ e. other.1 (e ∙ ap first_byte w))

  other_last : (a b : Printed) → IsRefusal a → IsOther b → Same a b
  other_last a b (inl v) other = apart a b (λ e. other.0 (sym e ∙ ap first_byte v.1))
  other_last a b (inr v) other = apart a b (λ e. other.1 (sym e ∙ ap first_byte v))

  other_as : (a c : Printed) → a ≡ c → IsOther c → IsOther a
  other_as a c e other = subst IsOther (sym e) other

  listed_other : (ss : List (List ℕ)) → IsOther (listed ss) × (first_byte (listed ss) ≢ 115)
  listed_other [] = ((λ e. omega (arith, e), λ e. omega (arith, e)), λ e. omega (arith, e))
  listed_other (s ∷ ss) = ((λ e. omega (arith, e), λ e. omega (arith, e)), λ e. omega (arith, e))

  answer_other : (c : Command) (r : Printed) → Answers c r → IsOther r
  answer_other (command.Step step.Next) r (inl h) = other_as r (shown h.0 h.1) h.2 (λ e. omega (arith, e), λ e. omega (arith, e))
  answer_other (command.Step step.Next) r (inr h) = other_as r (ended h.0) h.1 (λ e. omega (arith, e), λ e. omega (arith, e))
  answer_other (command.Step step.Offers) r h = other_as r (offered h.0) h.1 (λ e. omega (arith, e), λ e. omega (arith, e))
  answer_other (command.Step (step.Augment relation tuple)) r h = other_as r augmented h (λ e. omega (arith, e), λ e. omega (arith, e))
  answer_other (command.Step step.Back) r h = other_as r back h (λ e. omega (arith, e), λ e. omega (arith, e))
  answer_other (command.Step (step.Budget budget)) r h = other_as r (budget_set h.0) h.1 (λ e. omega (arith, e), λ e. omega (arith, e))
  answer_other (command.Step step.Proof) r h = other_as r (proved h.0 h.1) h.2 (λ e. omega (arith, e), λ e. omega (arith, e))
  answer_other (command.All n) r (inl h) = other_as r (listed h.0) h.1 (listed_other h.0).0
  answer_other (command.All n) r (inr h) = other_as r (partly h.0 (h.1 ∷ h.2)) h.3 (λ e. omega (arith, e), λ e. omega (arith, e))

  two_answers : (c : Command) (a b : Printed) → Answers c a → Answers c b → Same a b
  two_answers (command.Step step.Next) a b (inl h) (inl k) = along a b (shown h.0 h.1) (shown k.0 k.1) h.2 k.2 (two_shown h.0 k.0 h.1 k.1)
  two_answers (command.Step step.Next) a b (inl h) (inr k) = along a b (shown h.0 h.1) (ended k.0) h.2 k.1 (apart (shown h.0 h.1) (ended k.0) (λ e. omega (arith, e)))
  two_answers (command.Step step.Next) a b (inr h) (inl k) = along a b (ended h.0) (shown k.0 k.1) h.1 k.2 (apart (ended h.0) (shown k.0 k.1) (λ e. omega (arith, e)))
  two_answers (command.Step step.Next) a b (inr h) (inr k) = along a b (ended h.0) (ended k.0) h.1 k.1 (two_ended h.0 k.0)
  two_answers (command.Step step.Offers) a b h k = along a b (offered h.0) (offered k.0) h.1 k.1 (two_offered h.0 k.0)
  two_answers (command.Step (step.Augment relation tuple)) a b h k = along a b augmented augmented h k (two_words augmented (codes "augmented\n") (λ t is. is))
  two_answers (command.Step step.Back) a b h k = along a b back back h k (two_words back (codes "back\n") (λ t is. is))
  two_answers (command.Step (step.Budget budget)) a b h k = along a b (budget_set h.0) (budget_set k.0) h.1 k.1 (two_budgets h.0 k.0)
  two_answers (command.Step step.Proof) a b h k = along a b (proved h.0 h.1) (proved k.0 k.1) h.2 k.2 (two_proved h.0 k.0 h.1 k.1)
  two_answers (command.All n) a b (inl h) (inl k) = along a b (listed h.0) (listed k.0) h.1 k.1 (two_listed h.0 k.0)
  two_answers (command.All n) a b (inl h) (inr k) = along a b (listed h.0) (partly k.0 (k.1 ∷ k.2)) h.1 k.3 (apart (listed h.0) (partly k.0 (k.1 ∷ k.2)) (listed_other h.0).1)
  two_answers (command.All n) a b (inr h) (inl k) = along a b (partly h.0 (h.1 ∷ h.2)) (listed k.0) h.3 k.1 (apart (partly h.0 (h.1 ∷ h.2)) (listed k.0) (λ e. (listed_other k.0).1 (sym e)))
  two_answers (command.All n) a b (inr h) (inr k) = along a b (partly h.0 (h.1 ∷ h.2)) (partly k.0 (k.1 ∷ k.2)) h.3 k.3 (two_partly h.0 k.0 h.1 k.1 h.2 k.2)

  one_reply : (c : Command) (a b : Printed) → MayPrint c a → MayPrint c b → Same a b
  one_reply c a b (inl h) (inl k) = two_answers c a b h k
  one_reply c a b (inl h) (inr k) = other_first a b (answer_other c a h) k
  one_reply c a b (inr h) (inl k) = other_last a b h (answer_other c b k)
  one_reply c a b (inr h) (inr k) = two_refusals a b h k

  replies_are : (a b : Printed) (firsts bs : List Printed) → a ≡ b → firsts ≡ bs → a ∷ firsts ≡ b ∷ bs
  replies_are a b firsts bs e f = ap (λ (z : Printed). z ∷ firsts) e ∙ ap (λ (zs : List Printed). b ∷ zs) f

  pub same_replies : (cs : List Command) (firsts bs : List Printed) (ta tb x y : List ℕ) → AllZip MayPrint cs firsts → AllZip MayPrint cs bs → AllByRecursion (IsProper p) firsts → AllByRecursion (IsProper p) bs
      → AreReplyTexts p firsts ta → AreReplyTexts p bs tb → ta ++ x ≡ tb ++ y → (firsts ≡ bs) × (x ≡ y)
  same_replies [] [] [] ta tb x y ma mb pa pb is_a is_b e = (refl, ap (λ (z : List ℕ). z ++ x) (sym is_a) ∙ e ∙ ap (λ (z : List ℕ). z ++ y) is_b)
  same_replies [] [] (b ∷ bs) ta tb x y ma mb pa pb is_a is_b e = absurd mb
  same_replies [] (a ∷ firsts) bs ta tb x y ma mb pa pb is_a is_b e = absurd ma
  same_replies (c ∷ cs) [] bs ta tb x y ma mb pa pb is_a is_b e = absurd ma
  same_replies (c ∷ cs) (a ∷ firsts) [] ta tb x y ma mb pa pb is_a is_b e = absurd mb
  same_replies (c ∷ cs) (a ∷ firsts) (b ∷ bs) ta tb x y ma mb pa pb is_a is_b e =
      let bare = sym (append_assoc is_a.0 is_a.1 x) ∙ ap (λ (z : List ℕ). z ++ x) (sym is_a.4) ∙ e ∙ ap (λ (z : List ℕ). z ++ y) is_b.4 ∙ append_assoc is_b.0 is_b.1 y in
      let first = one_reply c a b ma.0 mb.0 is_a.0 is_b.0 (is_a.1 ++ x) (is_b.1 ++ y) pa.0 pb.0 is_a.2 is_b.2 bare in
      let rest = same_replies cs firsts bs is_a.1 is_b.1 x y ma.1 mb.1 pa.1 pb.1 is_a.3 is_b.3 first.1 in
      (replies_are a b firsts bs first.0 rest.0, rest.1)
