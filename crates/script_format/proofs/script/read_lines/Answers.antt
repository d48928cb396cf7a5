use Rattle.std.proofs.Common.{◌≡◌, ◌⊎◌, ◌<◌, ◌+◌, ℕ, List, [], ◌∷◌, ◌++◌, Bor, Some, None, length, take, drop, get_or, sym, ap, subst, rules, arith, inl, inr}
use Rattle.std.proofs.lemmas.List.{length-take, length-map}
use Rattle.std.proofs.lemmas.Result.{err_from_is_err_and}
use Rattle.script_format.specs.declared.fault.Kind.{Kind}
use Rattle.script_format.specs.declared.fault.ScriptFault.TheVariants as fault
use Rattle.script_format.specs.Reading.{Reading, Start}
use Rattle.script_format.specs.Script.{Leads, fault_at}
use Rattle.script_format.specs.Read.{reading_of}
use Rattle.script_format.proofs.UniqueScripts.{texts, texts_split, texts_more}
use Rattle.script_format.proofs.LineReadings.{leads_on, beyond, blame}
use Rattle.script_format.proofs.Soundness.{sound_after, sound_at_start}
use Rattle.script_format.proofs.script.read_lines.Goals as goal

pub take_at-requires : goal.take_at-requires
take_at-requires c = sound_after Start (reading_of c.loop-line.reader) (texts (take c.loop-line.line-index c.args.lines.now)) c.loop-line.invariant.leads sound_at_start

pub loop-line-preserved : goal.loop-line-preserved
loop-line-preserved c =
    let d : Bor (List ℕ) = record { ref_ptr = (0, 0); now = [] } in
    let xs = c.args.lines.now in
    let i = c.loop-line.line-index in
    let old : Reading = reading_of c.loop-line.reader in
    let new : Reading = reading_of c.take_at.new.reader in
    let below : i < length xs = omega (arith, c.loop-line-test.true, c.loop-line.auto.line-index-end) in
    let text = (get_or xs i d).now in
    let none : blame old text ≡ None = search rules in
    let is : new ≡ beyond old text = search rules in
    record {
      count = ap (λ n. n + 1) c.loop-line.invariant.count;
      leads = subst (λ (ts : List (List ℕ)). Leads Start ts new) (sym (texts_more xs i d below))
          (subst (λ (r : Reading). Leads Start (texts (take i xs) ++ text ∷ []) r) (sym is) (leads_on Start old (texts (take i xs)) text c.loop-line.invariant.leads none));
    }

pub returns-in_err-take_at : goal.returns-in_err-take_at
returns-in_err-take_at c =
    let d : Bor (List ℕ) = record { ref_ptr = (0, 0); now = [] } in
    let xs = c.args.lines.now in
    let i = c.loop-line.line-index in
    let old : Reading = reading_of c.loop-line.reader in
    let below : i < length xs = omega (arith, c.loop-line-test.true, c.loop-line.auto.line-index-end) in
    let text = (get_or xs i d).now in
    let told : (c.in_err-take_at.field-0.0 ≡ fault.Memory) ⊎ ((kind : Kind) × (blame old text ≡ Some kind) × (c.in_err-take_at.field-0.0 ≡ fault_at kind (c.loop-line.number + 1))) = search rules in
    let p = err_from_is_err_and c.from_residual.result c.from_residual.ensures.1 in
    rw (p.1, p.2) (elim told [
      | inl e ↦ inl e
      | inr h ↦ inr (
        c.loop-line.number + 1,
        h.0,
        record {
          before = texts (take i xs);
          text = text;
          others = texts (drop (i + 1) xs);
          texts_are = texts_split xs i d below;
          number_is = omega (arith, c.loop-line.invariant.count, length-map (take i xs) (λ (x : Bor (List ℕ)). x.now), length-take i xs);
          last = old;
          leads = c.loop-line.invariant.leads;
          fault = h.1;
        },
        h.2,
      )
    ])
