use Rattle.std.proofs.Common.{◌≡◌, ◌∷◌, List, length, slice_index_or, ◌∙◌, ap, arith}
use Rattle.std.specs.List.{remove}
use Rattle.std.proofs.lemmas.List.{length-map}
use Rattle.std.proofs.lemmas.Result.{IfOk-weaker}
use Rattle.refutation_check.specs.declared.log.Step.{Step as LogStep}
use Rattle.refutation_check.specs.Part.{Parted}
use Rattle.sat_core.specs.Assuming.{numbered}
use Rattle.sat_core.specs.Kept.{number_in, told}
use Rattle.session_state.proofs.search_rounds.going.told.Goals as goal

pub remove-first-requires : goal.remove-first-requires
remove-first-requires c = let has = c.requires.parts in omega (arith, ap length has.2, c.args.parts.ok.0)

pub with_log-requires : goal.with_log-requires
with_log-requires c =
    let k = c.args.search.now in
    let has = c.requires.parts in
    let first : Parted = c.remove-first.result in
    let is : first ≡ has.0 = c.remove-first.ensures.value ∙ ap (λ (parts : List Parted). slice_index_or parts 0 first) has.2 in
    let local : length first.local ≡ length has.0.local = ap (λ (p : Parted). length p.local) is in
    let long : length c.in_ok-log.log ≡ length k.steps = ap length c.in_ok-log.ensures ∙ length-map k.steps (numbered (number_in k.numbers)) in
    let few = has.3 in
    omega arith

pub returns : goal.returns
returns c =
    let log : List LogStep = c.in_ok-log.log in
    let part : Parted = c.remove-first.result in
    IfOk-weaker c.led_by.result _ _
    (λ all is first rest e.
    let one : part ≡ first = c.remove-first.ensures.value ∙ ap (λ (parts : List Parted). slice_index_or parts 0 part) e in
    let others : c.remove-first.new.self.items ≡ rest = c.remove-first.ensures.items ∙ ap (λ (parts : List Parted). remove parts 0) e in
    let made : c.with_log.result ≡ record { local = first.local; log = told c.args.search.now } =
    c.with_log.ensures ∙ ap (λ (p : Parted). let q : Parted = record { local = p.local; log = log } in q) one ∙ ap (λ (ss : List LogStep). let q : Parted = record { local = first.local; log = ss } in q) c.in_ok-log.ensures in
    is ∙ ap (λ (p : Parted). p ∷ c.remove-first.new.self.items) made ∙ ap (λ (parts : List Parted). record { local = first.local; log = told c.args.search.now } ∷ parts) others)
    c.led_by.ensures
