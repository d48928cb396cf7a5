-- The pairs of a model and a command that sessions name.
use Rattle.std.specs.Prelude.{◌==◌, List, [], ◌∷◌, ◌++◌, Bool, ◌&&◌, if◌then◌else◌}
use Rattle.std.specs.List.{list_any}
use Rattle.script_format.specs.declared.entries.SessionEntry.{SessionEntry}
use Rattle.script_format.specs.declared.keys.Key.{Key}

abbrev pub key_of : SessionEntry → Key
key_of s = record { model = s.model; number = s.number }

abbrev pub is_key : Key → Key → Bool
is_key a b = a.model == b.model && a.number == b.number

-- a pair is added at the end, where it isn't there yet
abbrev pub with_key : List Key → Key → List Key
with_key keys key = if list_any (is_key key) keys then keys else keys ++ key ∷ []

-- these pairs, and then those that the sessions add
abbrev pub keys_from : List Key → List SessionEntry → List Key
keys_from keys [] = keys
keys_from keys (s ∷ others) = keys_from (with_key keys (key_of s)) others

-- the pairs that sessions name, each once, in the order in which they are named first
abbrev pub keys_of : List SessionEntry → List Key
keys_of sessions = keys_from [] sessions
