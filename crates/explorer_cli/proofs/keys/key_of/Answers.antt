use Rattle.std.proofs.Common.{◌≡◌, length, take, sym, ap, arith}
use Rattle.explorer_cli.specs.Keys.{place_of, problems_of}
use Rattle.explorer_cli.proofs.KeyedProblems.{model_inside, few_before, key_within, key_is}
use Rattle.explorer_cli.proofs.keys.key_of.Goals as goal

pub commands_in-before-requires : goal.commands_in-before-requires
commands_in-before-requires c =
    let few = few_before c.args.models.now c.args.session.now c.requires.served in
    omega (arith, few, c.requires.few)

pub bounds-models-model : goal.bounds-models-model
bounds-models-model c = model_inside c.args.models.now c.args.session.now c.requires.served

pub overflow_add-result : goal.overflow_add-result
overflow_add-result c =
    let x = c.args.session.now in
    let made = c.index-models-model.result in
    let place = c.place_of.ensures in
    let lent = ap (place_of x.number) c.deref.ensures.value in
    let before : c.commands_in-before.result ≡ length (problems_of (take x.model c.args.models.now)) = c.commands_in-before.ensures in
    let is = key_is c.args.models.now x made (sym c.index-models-model.is) c.requires.served in
    let within = key_within c.args.models.now x c.requires.served in
    omega (arith, place, lent, before, is, within, c.requires.few)

pub overflow_cast-result : goal.overflow_cast-result
overflow_cast-result c =
    let x = c.args.session.now in
    let made = c.index-models-model.result in
    let place = c.place_of.ensures in
    let lent = ap (place_of x.number) c.deref.ensures.value in
    let before : c.commands_in-before.result ≡ length (problems_of (take x.model c.args.models.now)) = c.commands_in-before.ensures in
    let is = key_is c.args.models.now x made (sym c.index-models-model.is) c.requires.served in
    let within = key_within c.args.models.now x c.requires.served in
    omega (arith, place, lent, before, is, within, c.requires.few)

pub returns : goal.returns
returns c =
    let x = c.args.session.now in
    let made = c.index-models-model.result in
    let place = c.place_of.ensures in
    let lent = ap (place_of x.number) c.deref.ensures.value in
    let before : c.commands_in-before.result ≡ length (problems_of (take x.model c.args.models.now)) = c.commands_in-before.ensures in
    let is = key_is c.args.models.now x made (sym c.index-models-model.is) c.requires.served in
    omega (arith, place, lent, before, is)
