use Rattle.std.proofs.Common.{rules}
use Rattle.std.specs.List.{All}
use Rattle.alloy_lex.specs.Reading.{IsSized}
use Rattle.alloy_parse.proofs.Sizes.{each_is_sized}
use Rattle.alloy_parse.proofs.answer.end_of.Goals as goal

pub place_behind-requires : goal.place_behind-requires
place_behind-requires c =
    let sized : All IsSized c.args.tokens.now = each_is_sized c.args.tokens.now c.requires in
    search rules
