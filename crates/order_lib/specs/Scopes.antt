-- Scopes under which ordered signatures are exact.
use Rattle.std.specs.Prelude.{ℕ, List, [], ◌∷◌, ◌++◌, map, Bool, true, ◌||◌, if◌then◌else◌, Option, Some, None, bytes_eq}
use Rattle.std.specs.List.{list_any}
use Rattle.alloy_lex.specs.declared.token.Place.{Place}
use Rattle.alloy_syntax.specs.declared.tree.Name.{Name}
use Rattle.alloy_syntax.specs.declared.tree.Number.{Number}
use Rattle.alloy_syntax.specs.declared.tree.Entry.{Entry}
use Rattle.alloy_syntax.specs.declared.tree.Open.{Open}
use Rattle.alloy_syntax.specs.Tree.{ScopeTree, ParagraphTree, signatures, fact, predicate, function, assertion, command}

abbrev pub is_among : List Name → List ℕ → Bool
is_among names text = list_any (λ (n : Name). bytes_eq n.text text) names

-- ---- the signatures that are ordered, each once, where it is opened first

abbrev pub with_signature : List Name → Name → List Name
with_signature names name = if is_among names name.text then names else names ++ name ∷ []

abbrev pub with_signatures : List Name → List Open → List Name
with_signatures names [] = names
with_signatures names (o ∷ os) = with_signatures (with_signature names o.signature) os

abbrev pub ordered_in : List Open → List Name
ordered_in opens = with_signatures [] opens

-- ---- scopes

abbrev pub exactly : Number → Name → Entry
exactly number name = record { exactly = true; number = number; name = name }

-- what is listed for an ordered signature is its exact number
abbrev pub made_exact : List Name → Entry → Entry
made_exact ordered e = record { exactly = e.exactly || is_among ordered e.name.text; number = e.number; name = e.name }

abbrev pub is_listed : List Entry → List ℕ → Bool
is_listed listed text = list_any (λ (e : Entry). bytes_eq e.name.text text) listed

-- an exact number for a signature that isn't listed
abbrev pub with_entry : List Entry → Number → List Entry → Name → List Entry
with_entry listed number entries name = if is_listed listed name.text then entries else entries ++ exactly number name ∷ []

abbrev pub with_entries : List Entry → Number → List Entry → List Name → List Entry
with_entries listed number entries [] = entries
with_entries listed number entries (name ∷ names) = with_entries listed number (with_entry listed number entries name) names

-- the default is the exact number of each ordered signature that isn't listed; without a default they have none
abbrev pub exact_entries : List Name → Option Number → List Entry → List Entry
exact_entries ordered None listed = map (made_exact ordered) listed
exact_entries ordered (Some number) listed = with_entries listed number (map (made_exact ordered) listed) ordered

-- 3, which is the default where no scope is given
abbrev pub three : Place → Number
three p = record { value = 3; place = p }

abbrev pub three_each : Place → List Name → ScopeTree
three_each p ordered = record { default = Some (three p); entries = exact_entries ordered (Some (three p)) [] }

-- the scope of a command at that place
abbrev pub exact_scope : Place → List Name → Option ScopeTree → ScopeTree
exact_scope p ordered None = three_each p ordered
exact_scope p ordered (Some s) = record { default = s.default; entries = exact_entries ordered s.default s.entries }

-- a command under such a scope; all else is as it is
abbrev pub with_exact : List Name → ParagraphTree → ParagraphTree
with_exact ordered (command kind place target scope expected) = command kind place target (Some (exact_scope place ordered scope)) expected
with_exact ordered (signatures is_abstract mark names parent fields) = signatures is_abstract mark names parent fields
with_exact ordered (fact name block) = fact name block
with_exact ordered (predicate name parameters block) = predicate name parameters block
with_exact ordered (function name parameters mark range body) = function name parameters mark range body
with_exact ordered (assertion name block) = assertion name block
