-- Each part is made for the specs.
use Rattle.std.proofs.Common.{rules, ◌∙◌, ap}
use Rattle.gix_pathspec.specs.Room.{made_sources}
use Rattle.gix_pathspec.specs.SetSources.{head_set_sources}
use Rattle.gix_pathspec.proofs.search.counted.SpecScratch.for_specs.Goals as goal

pub returns-clause-room : goal.returns-clause-room
returns-clause-room c = record {
  globs = search rules;
  outcomes = search rules;
  members = c.in_ok-head_set_sources.ensures ∙ ap head_set_sources (c.deref-3.ensures.value ∙ c.specs.view_is);
  excludes = c.in_ok-set_sources.ensures ∙ ap made_sources (c.deref-4.ensures.value ∙ c.specs.view_is);
}
