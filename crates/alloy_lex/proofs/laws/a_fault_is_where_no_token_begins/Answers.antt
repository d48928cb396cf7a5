use Rattle.alloy_lex.proofs.Refusals.{refused}
use Rattle.alloy_lex.proofs.laws.a_fault_is_where_no_token_begins.Goals as goal

pub returns : goal.returns
returns c = refused
