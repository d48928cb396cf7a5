use Rattle.std.proofs.Common.{codes, refl}
use Rattle.clap.specs.Words.{found_of, rows_of, subcommand_rows_of}
use Rattle.command_words.proofs.MetCommand.{by_run, by_distinct, by_crew, by_asserts, by_facts, by_load, left_over, met}
use Rattle.command_words.proofs.reading.said_by.Goals as goal

pub returns-in-Some : goal.returns-in-Some
returns-in-Some c =
    let matches = c.args.matches.now in
    let rows = rows_of (found_of c.in-Some.options.now) in
    by_run (subcommand_rows_of matches) rows c.run_with.result (met matches (codes "run") rows (c.in-Some.ensures.found.0 refl) c.in-Some.ensures.rows) c.run_with.ensures

pub returns-in-Some-subcommand_matches : goal.returns-in-Some-subcommand_matches
returns-in-Some-subcommand_matches c =
    let matches = c.args.matches.now in
    let rows = rows_of (found_of c.in-Some-subcommand_matches.options.now) in
    by_distinct (subcommand_rows_of matches) rows c.distinct_with.result (met matches (codes "distinct") rows (c.in-Some-subcommand_matches.ensures.found.0 refl) c.in-Some-subcommand_matches.ensures.rows) c.distinct_with.ensures

pub returns-in-Some-subcommand_matches-2 : goal.returns-in-Some-subcommand_matches-2
returns-in-Some-subcommand_matches-2 c =
    let matches = c.args.matches.now in
    let rows = rows_of (found_of c.in-Some-subcommand_matches-2.options.now) in
    by_crew (subcommand_rows_of matches) rows c.crew_with.result (met matches (codes "crew") rows (c.in-Some-subcommand_matches-2.ensures.found.0 refl) c.in-Some-subcommand_matches-2.ensures.rows) c.crew_with.ensures

pub returns-in-Some-subcommand_matches-3 : goal.returns-in-Some-subcommand_matches-3
returns-in-Some-subcommand_matches-3 c =
    let matches = c.args.matches.now in
    let rows = rows_of (found_of c.in-Some-subcommand_matches-3.options.now) in
    by_asserts (subcommand_rows_of matches) rows c.assert_with.result (met matches (codes "assert") rows (c.in-Some-subcommand_matches-3.ensures.found.0 refl) c.in-Some-subcommand_matches-3.ensures.rows) c.assert_with.ensures

pub returns-in-Some-subcommand_matches-4 : goal.returns-in-Some-subcommand_matches-4
returns-in-Some-subcommand_matches-4 c =
    let matches = c.args.matches.now in
    let rows = rows_of (found_of c.in-Some-subcommand_matches-4.options.now) in
    by_facts (subcommand_rows_of matches) rows c.facts_with.result (met matches (codes "facts") rows (c.in-Some-subcommand_matches-4.ensures.found.0 refl) c.in-Some-subcommand_matches-4.ensures.rows) c.facts_with.ensures

pub returns-in-Some-subcommand_matches-5 : goal.returns-in-Some-subcommand_matches-5
returns-in-Some-subcommand_matches-5 c =
    let matches = c.args.matches.now in
    let rows = rows_of (found_of c.in-Some-subcommand_matches-5.words.now) in
    by_load (subcommand_rows_of matches) rows c.load_with.result (met matches (codes "load") rows (c.in-Some-subcommand_matches-5.ensures.found.0 refl) c.in-Some-subcommand_matches-5.ensures.rows) c.load_with.ensures

pub returns-in_default-subcommand_matches-5 : goal.returns-in_default-subcommand_matches-5
returns-in_default-subcommand_matches-5 c = left_over c.args.matches.now (λ e. absurd (cc (c.in_default.ensures.found.1 e))) (λ e. absurd (cc (c.in_default-subcommand_matches.ensures.found.1 e))) (λ e. absurd (cc (c.in_default-subcommand_matches-2.ensures.found.1 e))) (λ e. absurd (cc (c.in_default-subcommand_matches-3.ensures.found.1 e))) (λ e. absurd (cc (c.in_default-subcommand_matches-4.ensures.found.1 e))) (λ e. absurd (cc (c.in_default-subcommand_matches-5.ensures.found.1 e)))
