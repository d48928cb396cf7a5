use Rattle.std.proofs.Common.{◌≡◌, ◌≤◌, ◌<◌, All, length, ap, rules, arith}
use Rattle.std.specs.Str.{IsUtf8}
use Rattle.std.specs.Str.Lines.{lines}
use Rattle.std.proofs.lemmas.List.{length-map}
use Rattle.script_format.specs.declared.entries.ModelEntry.{ModelEntry}
use Rattle.script_format.specs.declared.entries.SessionEntry.{SessionEntry}
use Rattle.script_format.specs.Read.{Reads}
use Rattle.script_format.proofs.UniqueScripts.{texts, reads_script, reads_fault, just_script, just_fault, models_there, texts_small, if_ok}
use Rattle.script_format.proofs.Sizes.{text_size, count_size}
use Rattle.script_format.proofs.script.read_script.Goals as goal

pub read_lines-requires : goal.read_lines-requires
read_lines-requires c =
    let are : texts c.deref.result.now ≡ lines c.args.bytes.now = search rules in
    omega (arith, length-map c.deref.result.now (λ x. x.now), ap length are, count_size (lines c.args.bytes.now), text_size c.args.bytes.now, c.if-bytes-gt-MOST_BYTES.false)

pub returns-in_ok-lines_of-in-Ok : goal.returns-in_ok-lines_of-in-Ok
returns-in_ok-lines_of-in-Ok c =
    let bytes = c.args.bytes.now in
    let r = c.read_lines.result in
    let small : length bytes ≤ 1048576 = omega (arith, c.if-bytes-gt-MOST_BYTES.false) in
    let utf8 : IsUtf8 bytes = search rules in
    let are : texts c.deref.result.now ≡ lines bytes = search rules in
    let read : Reads (texts c.deref.result.now) r = c.read_lines.ensures in
    let script = reads_script bytes (texts c.deref.result.now) r (small, utf8) are read in
    let faulty = reads_fault bytes (texts c.deref.result.now) r (small, utf8) are read in
    record {
      script = script;
      fault = faulty;
      only_script = just_script bytes r script faulty;
      only_fault = just_fault bytes r script faulty;
      named = if_ok {P = λ s. All (λ (x : SessionEntry). x.model < length s.models) s.sessions} bytes r (λ s is. models_there bytes s is) script;
      small = if_ok {P = λ s. All (λ (m : ModelEntry). length m.text ≤ 1048576) s.models} bytes r (λ s is. texts_small bytes s is) script;
    }
