use Rattle.std.proofs.Common.{◌≡◌, map, drop}
use Rattle.named_model.specs.Phrase.{links_of}
use Rattle.named_model.specs.View.{link_view}
use Rattle.overload_resolution.specs.Names.Asking.{asks_in_links}
use Rattle.overload_resolution.proofs.shared_names.asking.asks_in_links.Given as goal

abbrev pub invariant-loop-link : goal.invariant-loop-link
invariant-loop-link l = asks_in_links (links_of (map link_view (drop l.link-index l.links))) ≡ asks_in_links (links_of (map link_view l.links))
