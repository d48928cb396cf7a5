use Rattle.std.proofs.Common.{◌≡◌, map, drop}
use Rattle.named_model.specs.Phrase.{links_of, steps_of, domains_of}
use Rattle.named_model.specs.View.{phrases_view, link_view, step_view, domain_view}
use Rattle.overload_resolution.specs.Names.Shared.{shared_among, shared_in_links, shared_in_steps, shared_in_domains}
use Rattle.overload_resolution.proofs.shared_names.walk.+walk.Given as goal

abbrev pub invariant-is_among-loop-phrase : goal.invariant-is_among-loop-phrase
invariant-is_among-loop-phrase l = shared_among (phrases_view (drop l.phrase-index l.phrases)) ≡ shared_among (phrases_view l.phrases)

abbrev pub invariant-is_in_links-loop-link : goal.invariant-is_in_links-loop-link
invariant-is_in_links-loop-link l = shared_in_links (links_of (map link_view (drop l.link-index l.links))) ≡ shared_in_links (links_of (map link_view l.links))

abbrev pub invariant-is_in_steps-loop-step : goal.invariant-is_in_steps-loop-step
invariant-is_in_steps-loop-step l = shared_in_steps (steps_of (map step_view (drop l.step-index l.steps))) ≡ shared_in_steps (steps_of (map step_view l.steps))

abbrev pub invariant-is_in_domains-loop-domain : goal.invariant-is_in_domains-loop-domain
invariant-is_in_domains-loop-domain l = shared_in_domains (domains_of (map domain_view (drop l.domain-index l.domains))) ≡ shared_in_domains (domains_of (map domain_view l.domains))
