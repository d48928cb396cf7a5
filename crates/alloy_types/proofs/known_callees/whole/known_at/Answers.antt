use Rattle.std.proofs.Common.{◌≡◌, ◌<◌, map, length, Some}
use Rattle.std.specs.List.{slice_get}
use Rattle.std.proofs.lemmas.Result.{IfOk-weaker}
use Rattle.std.specs.Option.{option_map}
use Rattle.named_model.specs.Model.{CalleeTree}
use Rattle.named_model.specs.View.{phrase_view, callee_view}
use Rattle.overload_resolution.specs.Scopes.Declaring.{declared_by}
use Rattle.alloy_types.specs.Headers.Bodies.{body_of}
use Rattle.alloy_types.proofs.Calls.OutcomeLemmas.{seen_at, header_at, body_at}
use Rattle.alloy_types.proofs.known_callees.whole.known_at.Goals as goal

pub callee_known-requires : goal.callee_known-requires
callee_known-requires c = c.requires

pub returns-in-Some-clause-there : goal.returns-in-Some-clause-there
returns-in-Some-clause-there c =
    IfOk-weaker c.callee_known.result (λ r. option_map phrase_view r.1 ≡ body_of (declared_by c.args.setting.now) (callee_view c.in-Some.callee.now)) (λ r. c.args.number < length c.args.callees.now) (λ r e. c.in-Some.ensures.lookup.3.0)
    c.callee_known.ensures.body

pub returns-in-Some-clause-header : goal.returns-in-Some-clause-header
returns-in-Some-clause-header c =
    let all = c.args.callees.now in
    let n = c.args.number in
    let callee = c.in-Some.callee.now in
    let read = c.in-Some.ensures.lookup in
    header_at (declared_by c.args.setting.now) (callee_view callee) (λ (v : CalleeTree). slice_get (map callee_view all) n ≡ Some v) (λ v. seen_at callee_view all n callee v read.1 read.3.0) c.callee_known.result
    c.callee_known.ensures.parameters c.callee_known.ensures.kind

pub returns-in-Some-clause-body : goal.returns-in-Some-clause-body
returns-in-Some-clause-body c =
    let all = c.args.callees.now in
    let n = c.args.number in
    let callee = c.in-Some.callee.now in
    let read = c.in-Some.ensures.lookup in
    body_at (declared_by c.args.setting.now) (callee_view callee) (λ (v : CalleeTree). slice_get (map callee_view all) n ≡ Some v) (λ v. seen_at callee_view all n callee v read.1 read.3.0) c.callee_known.result c.callee_known.ensures.body
