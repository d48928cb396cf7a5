-- The faults of a model's names in two parts: those of what is declared, and those of what is said of it.
use Rattle.std.specs.Prelude.{◌++◌, [], List, flat_map}
use Rattle.alloy_syntax.specs.Tree.{ParagraphTree}
use Rattle.named_model.specs.declared.fault.NameFault.{NameFault}
use Rattle.named_model.specs.Declarations.{globals_of, callees_named}
use Rattle.named_model.specs.Faults.{children, repeats, stated_from, signature_faults, cycle_faults, body_faults, recursive_faults, command_faults}
use Rattle.name_tables.specs.InForce.{InForce}

-- all global names of these paragraphs, and no local one
abbrev pub names_of : List ParagraphTree → InForce
names_of ps = record { globals = globals_of ps; locals = [] }

abbrev pub repeated_in : List ParagraphTree → List NameFault
repeated_in ps = repeats [] (stated_from (flat_map children ps) 0 ps)

abbrev pub cyclic_in : List ParagraphTree → List NameFault
cyclic_in ps = flat_map (cycle_faults (flat_map children ps)) (flat_map children ps)

-- names that stand twice, unknown parents and bounds, cycles of parents
abbrev pub declared_faults : List ParagraphTree → List NameFault
declared_faults ps = repeated_in ps ++ flat_map (signature_faults (globals_of ps)) ps ++ cyclic_in ps

-- names in bodies, recursion, names of commands
abbrev pub said_faults : List ParagraphTree → List NameFault
said_faults ps = flat_map (body_faults (globals_of ps)) ps ++ recursive_faults (flat_map (callees_named (globals_of ps)) ps) ++ flat_map (command_faults ps (globals_of ps)) ps
