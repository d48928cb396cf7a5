use Rattle.std.proofs.Common.{◌≡◌}
use Rattle.alloy_types.proofs.Headers.Agreeing.{settled_agrees}
use Rattle.alloy_types.proofs.callee_headers.laws.parts_rest_on_what_they_call.Goals as goal

pub returns : goal.returns
returns c = λ signatures fields f g locals tops x h. (settled_agrees signatures fields f g (λ n. f n ≡ g n) (λ n e. e) locals tops x h).same
