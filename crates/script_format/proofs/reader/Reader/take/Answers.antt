use Rattle.std.proofs.Common.{◌≡◌, sym, ◌∙◌, subst, rules}
use Rattle.script_format.specs.declared.line.Line.{Line}
use Rattle.script_format.specs.declared.line.Line.TheVariants as line
use Rattle.script_format.specs.Lines.{line_of}
use Rattle.script_format.specs.Reading.{Reading}
use Rattle.script_format.specs.Read.{reading_of}
use Rattle.script_format.proofs.Placed.{Placed, placed}
use Rattle.script_format.proofs.Taken.{idle_taken, text_taken, stray_told, number_told, unknown_told, model_taken, session_taken, more_taken, command_taken}
use Rattle.script_format.proofs.reader.Reader.take.Goals as goal

pub add_text-requires : goal.add_text-requires
add_text-requires c =
    let r : Reading = reading_of c.args.self.now in
    let is : line_of r.began c.args.text.now ≡ line.Text c.in-Text.model = sym c.in_ok-line_of.ensures ∙ c.in-Text.is in
    subst (λ (l : Line). Placed r l) is (placed r c.args.text.now c.requires.there)

pub take_command-requires-clause-place : goal.take_command-requires-clause-place
take_command-requires-clause-place c =
    let r : Reading = reading_of c.args.self.now in
    let is : line_of r.began c.args.text.now ≡ line.Command c.in-Command.session c.in-Command.command = sym c.in_ok-line_of.ensures ∙ c.in-Command.is in
    subst (λ (l : Line). Placed r l) is (placed r c.args.text.now c.requires.there)

pub returns-in-Idle : goal.returns-in-Idle
returns-in-Idle c = idle_taken (reading_of c.args.self.now) c.args.text.now (sym c.in_ok-line_of.ensures ∙ c.in-Idle.is)

pub returns-in_ok-add_text-in-Text : goal.returns-in_ok-add_text-in-Text
returns-in_ok-add_text-in-Text c = text_taken (reading_of c.args.self.now) c.args.text.now c.in-Text.model c.add_text.new.models.items (sym c.in_ok-line_of.ensures ∙ c.in-Text.is) (search rules)

pub returns-in-Stray : goal.returns-in-Stray
returns-in-Stray c = stray_told (reading_of c.args.self.now) c.args.text.now (sym c.in_ok-line_of.ensures ∙ c.in-Stray.is)

pub returns-in-BadNumber : goal.returns-in-BadNumber
returns-in-BadNumber c = number_told (reading_of c.args.self.now) c.args.text.now (sym c.in_ok-line_of.ensures ∙ c.in-BadNumber.is)

pub returns-in-Unknown : goal.returns-in-Unknown
returns-in-Unknown c = unknown_told (reading_of c.args.self.now) c.args.text.now (sym c.in_ok-line_of.ensures ∙ c.in-Unknown.is)

pub returns-in-Model : goal.returns-in-Model
returns-in-Model c = model_taken (reading_of c.args.self.now) c.args.text.now c.in-Model.name c.take_model.result (reading_of c.take_model.new.self) (sym c.in_ok-line_of.ensures ∙ c.in-Model.is) c.take_model.ensures

pub returns-in-Session : goal.returns-in-Session
returns-in-Session c = session_taken (reading_of c.args.self.now) c.args.text.now c.in-Session.name c.in-Session.model c.in-Session.number c.take_session.result (reading_of c.take_session.new.self) (sym c.in_ok-line_of.ensures ∙ c.in-Session.is) c.take_session.ensures

pub returns-in-More : goal.returns-in-More
returns-in-More c = more_taken (reading_of c.args.self.now) c.args.text.now c.in-More.name c.take_more.result (reading_of c.take_more.new.self) (sym c.in_ok-line_of.ensures ∙ c.in-More.is) c.take_more.ensures

pub returns-in-Command : goal.returns-in-Command
returns-in-Command c = command_taken (reading_of c.args.self.now) c.args.text.now c.in-Command.session c.in-Command.command c.take_command.result (reading_of c.take_command.new.self) (sym c.in_ok-line_of.ensures ∙ c.in-Command.is) c.take_command.ensures
