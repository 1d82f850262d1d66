use Rattle.std.proofs.Common.{◌≡◌, [], map}
use Rattle.std.specs.Box.{box_value}
use Rattle.gix_pathspec.specs.Room.{Fits}
use Rattle.gix_pathspec.specs.Search.{specs_of}
use Rattle.pathspec_walk.specs.Walks.{can_hold}
use Rattle.pathspec_list.specs.Directories.{OfTree}
use Rattle.pathspec_list.specs.Listings.{is_listed, AllMatter, IsMore}
use Rattle.pathspec_list.specs.Courses.{course}
use Rattle.pathspec_list.proofs.CourseProofs.{IsCourse}
use Rattle.pathspec_list.proofs.walk.walk_selected.Given as goal

abbrev pub invariant-paths : goal.invariant-paths
invariant-paths g l = record {
  course : OfTree (g.D.Directories.tree l.fn.directories) (λ es. IsCourse (is_listed l.with_directories (g.L.LookUp.table l.fn.look_up) (specs_of l.search.specs)) (can_hold (specs_of l.search.specs)) es
      (course (g.V.Visitor.given l.fn.visitor) (g.V.Visitor.told l.fn.visitor) (g.D.Directories.opened l.fn.directories) [])
      (course (g.V.Visitor.given l.visitor) (g.V.Visitor.told l.visitor) (g.D.Directories.opened l.directories) (map (λ v. v.items) l.pending.items)));
  asked : IsMore (g.D.Directories.asked l.fn.directories) (g.D.Directories.asked l.directories) (AllMatter (is_listed l.with_directories (g.L.LookUp.table l.fn.look_up) (specs_of l.search.specs)) (specs_of l.search.specs));
  room : Fits l.search.specs (box_value l.scratch);
  tree : g.D.Directories.tree l.directories ≡ g.D.Directories.tree l.fn.directories;
  table : g.L.LookUp.table l.look_up ≡ g.L.LookUp.table l.fn.look_up;
  stops : g.V.Visitor.stops l.visitor ≡ g.V.Visitor.stops l.fn.visitor;
  count : g.L.LookUp.failures l.look_up ≡ g.L.LookUp.failures l.fn.look_up;
}
