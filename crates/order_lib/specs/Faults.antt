-- What is wrong with an ordering.
use Rattle.std.specs.Prelude.{ℕ, List, [], ◌∷◌, ◌++◌, Bool, true, false, not, ◌&&◌, if◌then◌else◌, Option, Some, None, option_map, is_none, bytes_eq}
use Rattle.std.specs.List.{list_any}
use Rattle.alloy_syntax.specs.declared.tree.MultiplicityWord.{MultiplicityWord}
use Rattle.alloy_syntax.specs.declared.tree.Multiplicity.TheVariants as multiplicity
use Rattle.alloy_syntax.specs.declared.tree.Open.{Open}
use Rattle.alloy_syntax.specs.Tree.{ParagraphTree, signatures, fact, predicate, function, assertion, command}
use Rattle.order_lib.specs.declared.fault.OrderFault.{OrderFault}
use Rattle.order_lib.specs.declared.fault.OrderFault.TheVariants as fault
use Rattle.order_lib.specs.Scopes.{is_among}

-- the paragraph declares a signature of this name
abbrev pub declares : ParagraphTree → List ℕ → Bool
declares (signatures is_abstract mark names parent fields) text = is_among names text
declares (fact name block) text = false
declares (predicate name parameters block) text = false
declares (function name parameters mark range body) text = false
declares (assertion name block) text = false
declares (command kind place target scope expected) text = false

-- `one` or `lone`
abbrev pub is_alone : Option MultiplicityWord → Bool
is_alone None = false
is_alone (Some m) = elim m.multiplicity [
  | multiplicity.Set ↦ false
  | multiplicity.One ↦ true
  | multiplicity.Lone ↦ true
  | multiplicity.Some ↦ false
]

-- signatures without a parent that are not abstract, and may have any number of atoms
abbrev pub is_plain : ParagraphTree → Bool
is_plain (signatures is_abstract mark names parent fields) = not is_abstract && (not (is_alone mark) && is_none parent)
is_plain (fact name block) = false
is_plain (predicate name parameters block) = false
is_plain (function name parameters mark range body) = false
is_plain (assertion name block) = false
is_plain (command kind place target scope expected) = false

-- the first paragraph that declares a signature of this name
abbrev pub declaration_of : List ParagraphTree → List ℕ → Option ParagraphTree
declaration_of [] text = None
declaration_of (p ∷ ps) text = if declares p text then Some p else declaration_of ps text

abbrev pub has_alias : List Open → List ℕ → Bool
has_alias opens text = list_any (λ (o : Open). bytes_eq o.alias.text text) opens

abbrev pub twice : List Open → Open → Option OrderFault
twice before o = if has_alias before o.alias.text then Some (fault.Twice o.alias.place) else None

-- the fault of an ordering behind these, where it is known whether its signature is plain, if it is declared
abbrev pub fault_by : List Open → Open → Option Bool → Option OrderFault
fault_by before o None = Some (fault.Unknown o.signature.place)
fault_by before o (Some false) = Some (fault.NotPlain o.signature.place)
fault_by before o (Some true) = twice before o

abbrev pub fault_of : List ParagraphTree → List Open → Open → Option OrderFault
fault_of ps before o = fault_by before o (option_map is_plain (declaration_of ps o.signature.text))

abbrev pub or_else : Option OrderFault → Option OrderFault → Option OrderFault
or_else (Some f) other = Some f
or_else None other = other

-- the first fault of orderings behind these
abbrev pub first_behind : List ParagraphTree → List Open → List Open → Option OrderFault
first_behind ps before [] = None
first_behind ps before (o ∷ os) = or_else (fault_of ps before o) (first_behind ps (before ++ o ∷ []) os)

abbrev pub first_fault : List ParagraphTree → List Open → Option OrderFault
first_fault ps opens = first_behind ps [] opens
