-- Loops over orderings and paragraphs, one element more.
use Rattle.std.proofs.Common.{◌≡◌, ℕ, ◌+◌, ◌<◌, List, [], ◌∷◌, ◌++◌, map, take, drop, length, get_or, ap, sym, ◌∙◌, add-one, arith}
use Rattle.std.proofs.Math.Seq.{take-suc}
use Rattle.std.proofs.lemmas.List.{drop_more}
use Rattle.alloy_syntax.specs.declared.tree.Open.{Open}
use Rattle.alloy_syntax.specs.declared.tree.Paragraph.{Paragraph}
use Rattle.alloy_syntax.specs.Tree.{ParagraphTree}
use Rattle.alloy_syntax.specs.View.{paragraph_view}
use Rattle.order_lib.specs.Faults.{fault_of, or_else, first_behind}
use Rattle.order_lib.specs.Expanded.{command_count, commands_in}

pub next_fault : (ps : List ParagraphTree) (opens : List Open) (i : ℕ) (d : Open) → i < length opens → first_behind ps (take i opens) (drop i opens) ≡ or_else (fault_of ps (take i opens) (get_or opens i d)) (first_behind ps (take (i + 1) opens) (drop (i + 1) opens))
next_fault ps opens i d l =
    ap (first_behind ps (take i opens)) (drop_more opens i d l)
    ∙ ap (λ before. or_else (fault_of ps (take i opens) (get_or opens i d)) (first_behind ps before (drop (i + 1) opens))) (sym (ap (λ k. take k opens) (add-one i) ∙ take-suc opens i d l))

pub more_commands : (ps : List Paragraph) (i : ℕ) (d : Paragraph) → i < length ps → commands_in (map paragraph_view (drop i ps)) ≡ command_count (paragraph_view (get_or ps i d)) + commands_in (map paragraph_view (drop (i + 1) ps))
more_commands ps i d l = ap (λ rest. commands_in (map paragraph_view rest)) (drop_more ps i d l)
