-- Why something isn't built: neither is a fault of the model.
use Rattle.lowering_rules.specs.declared.fault.LowerFault.{LowerFault}
use Rattle.lowering_rules.specs.declared.fault.LowerFault.TheVariants as fault
use Rattle.lowering_rules.specs.declared.fault.LowerStop.{LowerStop}
use Rattle.lowering_rules.specs.declared.fault.LowerStop.TheVariants as stop

abbrev pub fault_of : LowerStop → LowerFault
fault_of stop.TooLarge = fault.TooLarge
fault_of stop.Memory = fault.Memory
