-- What contracts see of what functions return.
use Rattle.std.specs.Prelude.{map, Vec}
use Rattle.std.specs.declared.alloc.Global.{Global}
use Rattle.named_model.specs.declared.phrase.Phrase.{Phrase}
use Rattle.named_model.specs.declared.phrase.Link.{Link}
use Rattle.named_model.specs.declared.phrase.Step.{Step}
use Rattle.named_model.specs.declared.phrase.Domain.{Domain}
use Rattle.named_model.specs.Phrase.{PhraseTrees, LinkTrees, StepTrees, DomainTrees, links_of, steps_of, step_first, domains_of}
use Rattle.named_model.specs.View.{phrases_view, link_view, step_view, domain_view}
use Rattle.model_types.specs.Sorts as sorts
use Rattle.model_types.specs.Typing as typing
use Rattle.model_types.specs.declared.part_sorts.kinds.Kind.{Kind}
use Rattle.model_types.specs.Parts.Kinds.{kind_view}
use Rattle.overload_resolution.specs.declared.settled_parts.building.Arguments.{Arguments}
use Rattle.overload_resolution.specs.Settling.Single.{Linked, Stepped}

abbrev pub phrases_seen : Vec Phrase Global → PhraseTrees
phrases_seen xs = phrases_view xs.items

abbrev pub domains_seen : Vec Domain Global → DomainTrees
domains_seen xs = domains_of (map domain_view xs.items)

abbrev pub arguments_view : Arguments → typing.Arguments
arguments_view a = record { trees = phrases_view a.phrases.items; arities = a.arities.items }

abbrev pub linked_view : Link × Kind → Linked
linked_view r = record { link = link_view r.0; kind = kind_view r.1 }

abbrev pub links_seen : Vec Link Global × Kind → LinkTrees × sorts.Kind
links_seen r = (links_of (map link_view r.0.items), kind_view r.1)

abbrev pub stepped_view : Step × Kind → Stepped
stepped_view r = record { before = step_first (step_view r.0); kind = kind_view r.1 }

abbrev pub steps_seen : Vec Step Global × Kind → StepTrees × sorts.Kind
steps_seen r = (steps_of (map step_view r.0.items), kind_view r.1)

abbrev pub bracketed_view : Vec Phrase Global × Kind → PhraseTrees × sorts.Kind
bracketed_view r = (phrases_view r.0.items, kind_view r.1)
