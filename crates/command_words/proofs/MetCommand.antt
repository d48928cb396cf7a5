-- What the command that was matched says of the command that is read.
use Rattle.std.proofs.Common.{◌≡◌, ◌≢◌, ◌∙◌, ℕ, List, codes, Option, Some, None, refl, sym, ap, ap₂, subst, arith}
use Rattle.std.specs.Option.{option_map}
use Rattle.clap.specs.Words.{Row, Text, subcommand_rows_of}
use Rattle.clap.specs.Matches.{subcommand_name_of}
use Rattle.clap.specs.declared.parser.matches.ArgMatches.{ArgMatches}
use Rattle.clap.specs.declared.parser.matches.ArgMatches.TheViews.{out-ArgMatches}
use Rattle.command_words.specs.Program.{IsReadBy, ReadsLoad, ReadsWithBudget, ReadsWithOptions}
use Rattle.command_words.specs.declared.reading.Command.{Command}
use Rattle.command_words.specs.declared.reading.Command.TheVariants.{Run, Check, Distinct, Assert, Facts, Crew}
use Rattle.command_words.proofs.CommandLemmas.{second_byte}

abbrev Found : Type 0
Found = Option (Text × List Row)

-- ---- a name and its rows

pair_of : {A : Type 0} (name_of : A → Text) (row_of : A → List Row) (o : Option A) (name : Text) (rows : List Row) → option_map name_of o ≡ Some name
    → option_map (λ (p : Text × List Row). p.1) (option_map {U = Text × List Row} (λ (a : A). (name_of a, row_of a)) o) ≡ Some rows → option_map {U = Text × List Row} (λ (a : A). (name_of a, row_of a)) o ≡ Some (name, rows)
pair_of name_of row_of None name rows named has = absurd (cc)
pair_of name_of row_of (Some a) name rows named has =
    let first : name_of a ≡ name = cc in
    let second : row_of a ≡ rows = cc in
    ap₂ (λ (x : Text) (y : List Row). Some (x, y)) first second

name_of_pair : {A : Type 0} (name_of : A → Text) (row_of : A → List Row) (o : Option A) → option_map name_of o ≡ option_map (λ (p : Text × List Row). p.0) (option_map {U = Text × List Row} (λ (a : A). (name_of a, row_of a)) o)
name_of_pair name_of row_of None = refl
name_of_pair name_of row_of (Some a) = refl

pub met : (m : ArgMatches) (name : Text) (rows : List Row) → subcommand_name_of m ≡ Some name → option_map (λ (p : Text × List Row). p.1) (subcommand_rows_of m) ≡ Some rows → subcommand_rows_of m ≡ Some (name, rows)
met m name rows named has = pair_of _ _ (out-ArgMatches m).subcommand name rows named has

pub named : (m : ArgMatches) (name : Text) (rows : List Row) → subcommand_rows_of m ≡ Some (name, rows) → subcommand_name_of m ≡ Some name
named m name rows e = name_of_pair _ _ (out-ArgMatches m).subcommand ∙ ap (option_map (λ (p : Text × List Row). p.0)) e

-- ---- the names differ in their second byte

abbrev byte_of : Found → ℕ
byte_of None = 0
byte_of (Some found) = second_byte found.0

same_rows : (name : Text) (xs ys : List Row) → ◌≡◌ {A = Found} (Some (name, xs)) (Some (name, ys)) → xs ≡ ys
same_rows name xs ys e = let both : ◌≡◌ {A = Text × List Row} (name, xs) (name, ys) = cc in ap (λ (p : Text × List Row). p.1) both

pub by_run : (found : Found) (rows : List Row) (said : Option Command) → found ≡ Some (codes "run", rows) → ReadsWithOptions Run rows said → IsReadBy found said
by_run found rows said is reads = record {
  run = λ others e. subst (λ (xs : List Row). ReadsWithOptions Run xs said) (same_rows (codes "run") rows others (sym is ∙ e)) reads;
  distinct = λ others e. absurd (omega (arith, ap byte_of (sym is ∙ e)));
  crew = λ others e. absurd (omega (arith, ap byte_of (sym is ∙ e)));
  asserts = λ others e. absurd (omega (arith, ap byte_of (sym is ∙ e)));
  facts = λ others e. absurd (omega (arith, ap byte_of (sym is ∙ e)));
  load = λ others e. absurd (omega (arith, ap byte_of (sym is ∙ e)));
  check = λ others e. absurd (omega (arith, ap byte_of (sym is ∙ e)));
}

pub by_distinct : (found : Found) (rows : List Row) (said : Option Command) → found ≡ Some (codes "distinct", rows) → ReadsWithOptions Distinct rows said → IsReadBy found said
by_distinct found rows said is reads = record {
  run = λ others e. absurd (omega (arith, ap byte_of (sym is ∙ e)));
  distinct = λ others e. subst (λ (xs : List Row). ReadsWithOptions Distinct xs said) (same_rows (codes "distinct") rows others (sym is ∙ e)) reads;
  crew = λ others e. absurd (omega (arith, ap byte_of (sym is ∙ e)));
  asserts = λ others e. absurd (omega (arith, ap byte_of (sym is ∙ e)));
  facts = λ others e. absurd (omega (arith, ap byte_of (sym is ∙ e)));
  load = λ others e. absurd (omega (arith, ap byte_of (sym is ∙ e)));
  check = λ others e. absurd (omega (arith, ap byte_of (sym is ∙ e)));
}

pub by_crew : (found : Found) (rows : List Row) (said : Option Command) → found ≡ Some (codes "crew", rows) → ReadsWithOptions Crew rows said → IsReadBy found said
by_crew found rows said is reads = record {
  run = λ others e. absurd (omega (arith, ap byte_of (sym is ∙ e)));
  distinct = λ others e. absurd (omega (arith, ap byte_of (sym is ∙ e)));
  crew = λ others e. subst (λ (xs : List Row). ReadsWithOptions Crew xs said) (same_rows (codes "crew") rows others (sym is ∙ e)) reads;
  asserts = λ others e. absurd (omega (arith, ap byte_of (sym is ∙ e)));
  facts = λ others e. absurd (omega (arith, ap byte_of (sym is ∙ e)));
  load = λ others e. absurd (omega (arith, ap byte_of (sym is ∙ e)));
  check = λ others e. absurd (omega (arith, ap byte_of (sym is ∙ e)));
}

pub by_asserts : (found : Found) (rows : List Row) (said : Option Command) → found ≡ Some (codes "assert", rows) → ReadsWithBudget Assert rows said → IsReadBy found said
by_asserts found rows said is reads = record {
  run = λ others e. absurd (omega (arith, ap byte_of (sym is ∙ e)));
  distinct = λ others e. absurd (omega (arith, ap byte_of (sym is ∙ e)));
  crew = λ others e. absurd (omega (arith, ap byte_of (sym is ∙ e)));
  asserts = λ others e. subst (λ (xs : List Row). ReadsWithBudget Assert xs said) (same_rows (codes "assert") rows others (sym is ∙ e)) reads;
  facts = λ others e. absurd (omega (arith, ap byte_of (sym is ∙ e)));
  load = λ others e. absurd (omega (arith, ap byte_of (sym is ∙ e)));
  check = λ others e. absurd (omega (arith, ap byte_of (sym is ∙ e)));
}

pub by_facts : (found : Found) (rows : List Row) (said : Option Command) → found ≡ Some (codes "facts", rows) → ReadsWithBudget Facts rows said → IsReadBy found said
by_facts found rows said is reads = record {
  run = λ others e. absurd (omega (arith, ap byte_of (sym is ∙ e)));
  distinct = λ others e. absurd (omega (arith, ap byte_of (sym is ∙ e)));
  crew = λ others e. absurd (omega (arith, ap byte_of (sym is ∙ e)));
  asserts = λ others e. absurd (omega (arith, ap byte_of (sym is ∙ e)));
  facts = λ others e. subst (λ (xs : List Row). ReadsWithBudget Facts xs said) (same_rows (codes "facts") rows others (sym is ∙ e)) reads;
  load = λ others e. absurd (omega (arith, ap byte_of (sym is ∙ e)));
  check = λ others e. absurd (omega (arith, ap byte_of (sym is ∙ e)));
}

pub by_load : (found : Found) (rows : List Row) (said : Option Command) → found ≡ Some (codes "load", rows) → ReadsLoad rows said → IsReadBy found said
by_load found rows said is reads = record {
  run = λ others e. absurd (omega (arith, ap byte_of (sym is ∙ e)));
  distinct = λ others e. absurd (omega (arith, ap byte_of (sym is ∙ e)));
  crew = λ others e. absurd (omega (arith, ap byte_of (sym is ∙ e)));
  asserts = λ others e. absurd (omega (arith, ap byte_of (sym is ∙ e)));
  facts = λ others e. absurd (omega (arith, ap byte_of (sym is ∙ e)));
  load = λ others e. subst (λ (xs : List Row). ReadsLoad xs said) (same_rows (codes "load") rows others (sym is ∙ e)) reads;
  check = λ others e. absurd (omega (arith, ap byte_of (sym is ∙ e)));
}

-- `check` is what is left
pub left_over : (m : ArgMatches) → (subcommand_name_of m ≢ Some (codes "run")) → (subcommand_name_of m ≢ Some (codes "distinct")) → (subcommand_name_of m ≢ Some (codes "crew")) → (subcommand_name_of m ≢ Some (codes "assert"))
    → (subcommand_name_of m ≢ Some (codes "facts")) → (subcommand_name_of m ≢ Some (codes "load")) → IsReadBy (subcommand_rows_of m) (Some Check)
left_over m run distinct crew asserts facts load = record {
  run = λ rows e. absurd (run (named m (codes "run") rows e));
  distinct = λ rows e. absurd (distinct (named m (codes "distinct") rows e));
  crew = λ rows e. absurd (crew (named m (codes "crew") rows e));
  asserts = λ rows e. absurd (asserts (named m (codes "assert") rows e));
  facts = λ rows e. absurd (facts (named m (codes "facts") rows e));
  load = λ rows e. absurd (load (named m (codes "load") rows e));
  check = λ rows e. refl;
}
