-- A line is taken as what it says.
use Rattle.std.proofs.Common.{◌≡◌, ℕ, List, [], Option, Some, None, Result, Ok, Err, refl, sym, ap, ◌∙◌}
use Rattle.session_words.specs.declared.commands.Command.{Command}
use Rattle.script_format.specs.declared.entries.ModelEntry.{ModelEntry}
use Rattle.script_format.specs.declared.fault.Kind.TheVariants as kind
use Rattle.script_format.specs.declared.fault.Stop.{Stop}
use Rattle.script_format.specs.declared.fault.Stop.TheVariants as stop
use Rattle.script_format.specs.declared.line.Line.{Line}
use Rattle.script_format.specs.declared.line.Line.TheVariants as line
use Rattle.script_format.specs.Lines.{line_of}
use Rattle.script_format.specs.Reading.{Reading, fault_of, after, changed, with_text}
use Rattle.script_format.specs.Read.{Takes}
use Rattle.script_format.proofs.LineReadings.{blame, beyond}

pub idle_taken : (r : Reading) (text : List ℕ) → line_of r.began text ≡ line.Idle → (blame r text ≡ None) × (r ≡ beyond r text)
unfolding fault_of after
idle_taken r text e = (ap (λ (l : Line). fault_of r l) e, ap (λ (l : Line). after r text l) (sym e))

pub text_taken : (r : Reading) (text : List ℕ) (k : ℕ) (models : List ModelEntry) → line_of r.began text ≡ line.Text k → models ≡ changed (with_text text) k r.models
    → (blame r text ≡ None) × (record { models = models; sessions = r.sessions; began = r.began; commands = r.commands; asked = r.asked } ≡ beyond r text)
unfolding fault_of after
text_taken r text k models e m =
    (ap (λ (l : Line). fault_of r l) e, ap (λ (ms : List ModelEntry). record { models = ms; sessions = r.sessions; began = r.began; commands = r.commands; asked = r.asked }) m ∙ ap (λ (l : Line). after r text l) (sym e))

pub stray_told : (r : Reading) (text : List ℕ) → line_of r.began text ≡ line.Stray → blame r text ≡ Some kind.StrayText
unfolding fault_of
stray_told r text e = ap (λ (l : Line). fault_of r l) e

pub number_told : (r : Reading) (text : List ℕ) → line_of r.began text ≡ line.BadNumber → blame r text ≡ Some kind.BadNumber
unfolding fault_of
number_told r text e = ap (λ (l : Line). fault_of r l) e

pub unknown_told : (r : Reading) (text : List ℕ) → line_of r.began text ≡ line.Unknown → blame r text ≡ Some kind.BadDirective
unfolding fault_of
unknown_told r text e = ap (λ (l : Line). fault_of r l) e

-- a line whose text isn't looked at any more
any_text : {A : Type 0} (r : Reading) (text : List ℕ) (l m : Line) (result : Result A Stop) (new : Reading) → m ≡ l → after r [] l ≡ after r text l → Takes r [] l result new → Takes r text m result new
any_text r text l m (Ok done) new e same h = (ap (λ (x : Line). fault_of r x) e ∙ h.0, h.1 ∙ same ∙ ap (λ (x : Line). after r text x) (sym e))
any_text r text l m (Err stop.Memory) new e same h = tt
any_text r text l m (Err (stop.Fault k)) new e same h = ap (λ (x : Line). fault_of r x) e ∙ h

same_model : (r : Reading) (text name : List ℕ) → after r [] (line.Model name) ≡ after r text (line.Model name)
unfolding after
same_model r text name = refl

same_session : (r : Reading) (text name model : List ℕ) (number : Option ℕ) → after r [] (line.Session name model number) ≡ after r text (line.Session name model number)
unfolding after
same_session r text name model number = refl

same_more : (r : Reading) (text name : List ℕ) → after r [] (line.More name) ≡ after r text (line.More name)
unfolding after
same_more r text name = refl

same_command : (r : Reading) (text : List ℕ) (k : ℕ) (c : Command) → after r [] (line.Command k c) ≡ after r text (line.Command k c)
unfolding after
same_command r text k c = refl

pub model_taken : {A : Type 0} (r : Reading) (text name : List ℕ) (result : Result A Stop) (new : Reading) → line_of r.began text ≡ line.Model name → Takes r [] (line.Model name) result new → Takes r text (line_of r.began text) result new
model_taken r text name result new e h = any_text r text (line.Model name) (line_of r.began text) result new e (same_model r text name) h

pub session_taken : {A : Type 0} (r : Reading) (text name model : List ℕ) (number : Option ℕ) (result : Result A Stop) (new : Reading) → line_of r.began text ≡ line.Session name model number → Takes r [] (line.Session name model number) result new → Takes r text (line_of r.began text) result new
session_taken r text name model number result new e h = any_text r text (line.Session name model number) (line_of r.began text) result new e (same_session r text name model number) h

pub more_taken : {A : Type 0} (r : Reading) (text name : List ℕ) (result : Result A Stop) (new : Reading) → line_of r.began text ≡ line.More name → Takes r [] (line.More name) result new → Takes r text (line_of r.began text) result new
more_taken r text name result new e h = any_text r text (line.More name) (line_of r.began text) result new e (same_more r text name) h

pub command_taken : {A : Type 0} (r : Reading) (text : List ℕ) (k : ℕ) (c : Command) (result : Result A Stop) (new : Reading) → line_of r.began text ≡ line.Command k c → Takes r [] (line.Command k c) result new → Takes r text (line_of r.began text) result new
command_taken r text k c result new e h = any_text r text (line.Command k c) (line_of r.began text) result new e (same_command r text k c) h
