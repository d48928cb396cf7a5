-- Each part of a phrase is smaller than the phrase, so the calls for its parts come to an end.
use Rattle.std.proofs.Common.{◌≡◌, ℕ, ◌+◌, ◌*◌, ◌<◌, ◌≤◌, List, length, get_or, Vec, Box, Global, ap, arith, rules}
use denote.Param.Weighed.{most, at_most}
use Rattle.named_model.proofs.phrase.Phrase.TheLaws.{the_size}
use Rattle.named_model.proofs.phrase.Link.TheLaws.{the_size as link_size}
use Rattle.named_model.proofs.phrase.Step.TheLaws.{the_size as step_size}
use Rattle.named_model.proofs.phrase.Domain.TheLaws.{the_size as domain_size}
use Rattle.named_model.specs.declared.phrase.Phrase.{Phrase}
use Rattle.named_model.specs.declared.phrase.Link.{Link}
use Rattle.named_model.specs.declared.phrase.Step.{Step}
use Rattle.named_model.specs.declared.phrase.Domain.{Domain}
use Rattle.named_model.specs.declared.phrase.Phrase.TheVariants as phrase
use Rattle.named_model.specs.declared.phrase.Step.TheVariants as step
use Rattle.named_model.specs.declared.phrase.Phrase.TheViews.{the_lemmas}

module _ {X : Type 0} (size : X → ℕ) (t : ℕ) where
  module _ {Y : Type 0} (size_of_part : Y → ℕ) (whole seen : X) (measured : 2 * size whole + 0 ≡ t) (is : whole ≡ seen) where
    -- a call for a part of what is measured
    pub part_falls : (part given : Y) → given ≡ part → size_of_part part < size seen → 2 * size_of_part given + 0 < t
    part_falls part given same smaller = let a = ap size is in let b = ap size_of_part same in omega arith

    -- a call for a row of parts
    pub row_falls : (parts given : List Y) → given ≡ parts → most size_of_part parts < size seen → 2 * most size_of_part given + 1 < t
    row_falls parts given same smaller = let a = ap size is in let b = ap (most size_of_part) same in omega arith

  -- a call for one of a row
  pub item_falls : (xs : List X) (i : ℕ) (x : X) → 2 * most size xs + 1 ≡ t → i < length xs → x ≡ get_or xs i x → 2 * size x + 0 < t
  item_falls xs i x measured there is = let a = ap size is in let b : size (get_or xs i x) ≤ most size xs = at_most size xs i x there in omega arith

pub called_smaller : (p : _) (n : ℕ) (xs : Vec Phrase Global) → most the_size xs.items < the_size (phrase.Called p n xs)
called_smaller p n xs = search (rules, the_lemmas)

pub bracketed_smaller : (p : _) (x : Box Phrase Global) → the_size x.value < the_size (phrase.Bracketed p x)
bracketed_smaller p x = search (rules, the_lemmas)

pub block_smaller : (p : _) (xs : Vec Phrase Global) → most the_size xs.items < the_size (phrase.Block p xs)
block_smaller p xs = search (rules, the_lemmas)

pub prefixed_smaller : (f p : _) (x : Box Phrase Global) → the_size x.value < the_size (phrase.Prefixed f p x)
prefixed_smaller f p x = search (rules, the_lemmas)

pub first_smaller : (x : Box Phrase Global) (ls : Vec Link Global) → the_size x.value < the_size (phrase.Chain x ls)
first_smaller x ls = search (rules, the_lemmas)

pub links_smaller : (x : Box Phrase Global) (ls : Vec Link Global) → most link_size ls.items < the_size (phrase.Chain x ls)
links_smaller x ls = search (rules, the_lemmas)

pub head_smaller : (x : Box Phrase Global) (ss : Vec Step Global) → the_size x.value < the_size (phrase.Path x ss)
head_smaller x ss = search (rules, the_lemmas)

pub steps_smaller : (x : Box Phrase Global) (ss : Vec Step Global) → most step_size ss.items < the_size (phrase.Path x ss)
steps_smaller x ss = search (rules, the_lemmas)

pub left_smaller : (x : Box Phrase Global) (c : _) (y : Box Phrase Global) → the_size x.value < the_size (phrase.Compared x c y)
left_smaller x c y = search (rules, the_lemmas)

pub right_smaller : (x : Box Phrase Global) (c : _) (y : Box Phrase Global) → the_size y.value < the_size (phrase.Compared x c y)
right_smaller x c y = search (rules, the_lemmas)

pub premise_smaller : (x : Box Phrase Global) (p : _) (y : Box Phrase Global) → the_size x.value < the_size (phrase.Implies x p y)
premise_smaller x p y = search (rules, the_lemmas)

pub conclusion_smaller : (x : Box Phrase Global) (p : _) (y : Box Phrase Global) → the_size y.value < the_size (phrase.Implies x p y)
conclusion_smaller x p y = search (rules, the_lemmas)

pub condition_smaller : (x : Box Phrase Global) (p : _) (y z : Box Phrase Global) → the_size x.value < the_size (phrase.ImpliesElse x p y z)
condition_smaller x p y z = search (rules, the_lemmas)

pub then_smaller : (x : Box Phrase Global) (p : _) (y z : Box Phrase Global) → the_size y.value < the_size (phrase.ImpliesElse x p y z)
then_smaller x p y z = search (rules, the_lemmas)

pub else_smaller : (x : Box Phrase Global) (p : _) (y z : Box Phrase Global) → the_size z.value < the_size (phrase.ImpliesElse x p y z)
else_smaller x p y z = search (rules, the_lemmas)

pub domains_smaller : (q p : _) (ds : Vec Domain Global) (x : Box Phrase Global) → most domain_size ds.items < the_size (phrase.Quantified q p ds x)
domains_smaller q p ds x = search (rules, the_lemmas)

pub body_smaller : (q p : _) (ds : Vec Domain Global) (x : Box Phrase Global) → the_size x.value < the_size (phrase.Quantified q p ds x)
body_smaller q p ds x = search (rules, the_lemmas)

pub values_smaller : (p : _) (xs : Vec Phrase Global) (x : Box Phrase Global) → most the_size xs.items < the_size (phrase.Let p xs x)
values_smaller p xs x = search (rules, the_lemmas)

pub let_body_smaller : (p : _) (xs : Vec Phrase Global) (x : Box Phrase Global) → the_size x.value < the_size (phrase.Let p xs x)
let_body_smaller p xs x = search (rules, the_lemmas)

pub operand_smaller : (l : Link) → the_size l.operand < link_size l
operand_smaller l = search (rules, the_lemmas)

pub domain_smaller : (d : Domain) → the_size d.domain < domain_size d
domain_smaller d = search (rules, the_lemmas)

pub joined_smaller : (p : _) (x : Phrase) → the_size x < step_size (step.Join p x)
joined_smaller p x = search (rules, the_lemmas)

pub in_brackets_smaller : (p : _) (xs : Vec Phrase Global) → most the_size xs.items < step_size (step.Brackets p xs)
in_brackets_smaller p xs = search (rules, the_lemmas)
