use Rattle.std.proofs.Common.{◌≡◌, ◌++◌, map, drop}
use Rattle.named_model.specs.Faults.{calls_in_all, calls_in_links, calls_in_steps, calls_in_domains}
use Rattle.named_model.specs.Phrase.{links_of, steps_of, domains_of}
use Rattle.named_model.specs.View.{phrases_view, link_view, step_view, domain_view}
use Rattle.reference_cycles.proofs.recursive_calls.calls.+calls.Given as goal

abbrev pub invariant-add_all-loop-phrase : goal.invariant-add_all-loop-phrase
invariant-add_all-loop-phrase l =
    l.calls.items ++ calls_in_all (phrases_view (drop l.phrase-index l.phrases)) ≡ l.fn.calls.items ++ calls_in_all (phrases_view l.phrases)

abbrev pub invariant-add_links-loop-link : goal.invariant-add_links-loop-link
invariant-add_links-loop-link l =
    l.calls.items ++ calls_in_links (links_of (map link_view (drop l.link-index l.links))) ≡ l.fn.calls.items ++ calls_in_links (links_of (map link_view l.links))

abbrev pub invariant-add_steps-loop-step : goal.invariant-add_steps-loop-step
invariant-add_steps-loop-step l =
    l.calls.items ++ calls_in_steps (steps_of (map step_view (drop l.step-index l.steps))) ≡ l.fn.calls.items ++ calls_in_steps (steps_of (map step_view l.steps))

abbrev pub invariant-add_domains-loop-domain : goal.invariant-add_domains-loop-domain
invariant-add_domains-loop-domain l =
    l.calls.items ++ calls_in_domains (domains_of (map domain_view (drop l.domain-index l.domains))) ≡ l.fn.calls.items ++ calls_in_domains (domains_of (map domain_view l.domains))
