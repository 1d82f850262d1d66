-- Each turn visits the next path: what it gives and opens goes on with the course.
use Rattle.std.proofs.Common.{◌≡◌, ◌∙◌, ℕ, Bool, refl, sym, ap, List, [], ◌∷◌, reverse, Option}
use Rattle.std.specs.Box.{box_value}
use Rattle.gix_pathspec.specs.Specs.{Spec}
use Rattle.gix_pathspec.specs.Room.{ScratchContents}
use Rattle.gix_pathspec.specs.Search.{specs_of}
use Rattle.gix_pathspec.proofs.RoomProofs.{fits-kept}
use Rattle.pathspec_walk.specs.Walks.{can_hold}
use Rattle.pathspec_list.specs.Directories.{append_known}
use Rattle.pathspec_list.specs.Listings.{is_listed, AllMatter, IsMore}
use Rattle.pathspec_list.specs.Courses.{course}
use Rattle.pathspec_list.proofs.StepProofs.{texts, stack_top, stack_empty, top_at_start, part_of_nothing, visit_as, at_most_as}
use Rattle.pathspec_list.proofs.AskedProofs.{asks_nothing, asks_top, asks_on}
use Rattle.pathspec_list.proofs.LookProofs.{ask_as}
use Rattle.pathspec_list.proofs.CourseProofs.{listing_is_safe, course_begins, course_goes_on, course_ends, course_part, course_all}
use Rattle.pathspec_list.proofs.walk.walk_selected.Goals as goal

pub returns-in-Err-clause-part : goal.returns-in-Err-clause-part
returns-in-Err-clause-part g c = λ es known. part_of_nothing _ es _ _ refl

pub returns-in_err-open_top-clause-part : goal.returns-in_err-open_top-clause-part
returns-in_err-open_top-clause-part g c = λ es known. part_of_nothing _ es _ _ c.open_top.ensures.given

pub returns-in-Err-clause-asked : goal.returns-in-Err-clause-asked
returns-in-Err-clause-asked g c =
    let specs = specs_of c.args.search.now.specs in
    asks_nothing (is_listed c.args.with_directories (g.L.LookUp.table c.args.look_up.now) specs) specs _ _ refl

-- the top was asked, since nothing was before
asks_first : (takes : List ℕ → Bool → Bool) (specs : List Spec) (asked asked' : Option (List (List ℕ))) → asked' ≡ append_known asked ([] ∷ []) → IsMore asked asked' (AllMatter takes specs)
asks_first takes specs asked asked' e = asks_top takes specs asked asked asked' (asks_nothing takes specs asked asked refl) e

pub returns-in_err-open_top-clause-asked : goal.returns-in_err-open_top-clause-asked
returns-in_err-open_top-clause-asked g c =
    let specs = specs_of c.args.search.now.specs in
    asks_first (is_listed c.args.with_directories (g.L.LookUp.table c.args.look_up.now) specs) specs _ _ c.open_top.ensures.asked

pub paths-init : goal.paths-init
paths-init g c =
    let specs = specs_of c.args.search.now.specs in
    let takes = is_listed c.args.with_directories (g.L.LookUp.table c.args.look_up.now) specs in
    let given = g.V.Visitor.given c.args.visitor.now in
    let told = g.V.Visitor.told c.args.visitor.now in
    let opened = g.D.Directories.opened c.args.directories.now in
    let after = course (g.V.Visitor.given c.open_top.new.visitor) (g.V.Visitor.told c.open_top.new.visitor) (g.D.Directories.opened c.open_top.new.directories) (texts c.open_top.new.pending.items) in
    record {
      course = λ es known. course_begins takes (can_hold specs) es (course given told opened []) after refl
          (top_at_start es given told opened (texts c.new-pending.result.items) after (ap texts c.new-pending.ensures.items) (c.in_ok-open_top.ensures.visited es known));
      asked = asks_first takes specs _ _ c.open_top.ensures.asked;
      room = c.in-Ok.ensures.fits;
      tree = c.open_top.ensures.tree_stays;
      table = refl;
      stops = c.in_ok-open_top.ensures.stops;
      count = refl;
    }

pub returns-in_default-clause-part : goal.returns-in_default-clause-part
returns-in_default-clause-part g c = λ es known. course_part _ _ es _ _ (c.paths.invariant.course es known)

pub returns-clause-part : goal.returns-clause-part
returns-clause-part g c = λ es known. course_part _ _ es _ _ (c.paths.invariant.course es known)

pub returns-in_default-clause-all : goal.returns-in_default-clause-all
returns-in_default-clause-all g c = λ es known told.
    let specs = specs_of c.args.search.now.specs in
    let table = g.L.LookUp.table c.args.look_up.now in
    let start = course (g.V.Visitor.given c.args.visitor.now) (g.V.Visitor.told c.args.visitor.now) (g.D.Directories.opened c.args.directories.now) [] in
    let here = course (g.V.Visitor.given c.paths.visitor) (g.V.Visitor.told c.paths.visitor) (g.D.Directories.opened c.paths.directories) (texts c.paths.pending.items) in
    course_all (is_listed c.args.with_directories table specs) specs (listing_is_safe c.args.with_directories table specs c.nil_specs_lack_a_prefix.ensures) es (c.open_top.ensures.tree es known).0 start here
    (stack_empty c.paths.pending.items (sym c.paths.pending.ok.0 ∙ c.in_default.ensures.cases.0)) told (c.paths.invariant.course es known)

pub returns-in_err-visit-clause-part : goal.returns-in_err-visit-clause-part
returns-in_err-visit-clause-part g c = λ es known.
    let i = c.paths.invariant in
    let specs = specs_of c.args.search.now.specs in
    let table = g.L.LookUp.table c.args.look_up.now in
    let start = course (g.V.Visitor.given c.args.visitor.now) (g.V.Visitor.told c.args.visitor.now) (g.D.Directories.opened c.args.directories.now) [] in
    let here = course (g.V.Visitor.given c.paths.visitor) (g.V.Visitor.told c.paths.visitor) (g.D.Directories.opened c.paths.directories) (texts c.paths.pending.items) in
    course_ends (is_listed c.args.with_directories table specs) (can_hold specs) (listing_is_safe c.args.with_directories table specs c.nil_specs_lack_a_prefix.ensures) es (c.open_top.ensures.tree es known).0 start here
    c.in-Some.path.items (reverse (texts c.pop.new.self.items)) (stack_top c.paths.pending.items c.pop.new.self.items c.in-Some.path c.in-Some.ensures.items) (i.course es known) (g.V.Visitor.given c.visit.new.visitor)
    (at_most_as c.args.with_directories table (g.L.LookUp.table c.paths.look_up) specs es c.in-Some.path.items c.as_slice-path.result.now (g.V.Visitor.given c.paths.visitor) (g.V.Visitor.given c.visit.new.visitor) i.table c.as_slice-path.ensures.value (c.in_err-visit.ensures.ended es (i.tree ∙ known)))

pub returns-in_err-visit-clause-asked : goal.returns-in_err-visit-clause-asked
returns-in_err-visit-clause-asked g c =
    let i = c.paths.invariant in
    let specs = specs_of c.args.search.now.specs in
    let table = g.L.LookUp.table c.args.look_up.now in
    let before = g.D.Directories.asked c.paths.directories in
    let after = g.D.Directories.asked c.visit.new.directories in
    asks_on (is_listed c.args.with_directories table specs) specs (g.D.Directories.asked c.args.directories.now) before after i.asked c.in-Some.path.items
    (ask_as c.args.with_directories table (g.L.LookUp.table c.paths.look_up) specs c.in-Some.path.items c.as_slice-path.result.now before after i.table c.as_slice-path.ensures.value c.visit.ensures.asked)

pub paths-preserved : goal.paths-preserved
paths-preserved g c =
    let i = c.paths.invariant in
    let v = c.in_ok-visit.ensures in
    let specs = specs_of c.args.search.now.specs in
    let table = g.L.LookUp.table c.args.look_up.now in
    let given = g.V.Visitor.given c.paths.visitor in
    let told = g.V.Visitor.told c.paths.visitor in
    let opened = g.D.Directories.opened c.paths.directories in
    let start = course (g.V.Visitor.given c.args.visitor.now) (g.V.Visitor.told c.args.visitor.now) (g.D.Directories.opened c.args.directories.now) [] in
    let here = course given told opened (texts c.paths.pending.items) in
    let popped = course given told opened (texts c.pop.new.self.items) in
    let after = course (g.V.Visitor.given c.visit.new.visitor) (g.V.Visitor.told c.visit.new.visitor) (g.D.Directories.opened c.visit.new.directories) (texts c.visit.new.pending.items) in
    record {
      course = λ es known. course_goes_on (is_listed c.args.with_directories table specs) (can_hold specs) (listing_is_safe c.args.with_directories table specs c.nil_specs_lack_a_prefix.ensures) es (c.open_top.ensures.tree es known).0 start here
          c.in-Some.path.items (reverse (texts c.pop.new.self.items)) (stack_top c.paths.pending.items c.pop.new.self.items c.in-Some.path c.in-Some.ensures.items) (i.course es known) after
          (visit_as c.args.with_directories table (g.L.LookUp.table c.paths.look_up) specs (can_hold specs) es c.in-Some.path.items c.as_slice-path.result.now popped after i.table c.as_slice-path.ensures.value (v.visited es (i.tree ∙ known)));
      asked = asks_on (is_listed c.args.with_directories table specs) specs (g.D.Directories.asked c.args.directories.now) (g.D.Directories.asked c.paths.directories) (g.D.Directories.asked c.visit.new.directories) i.asked c.in-Some.path.items
          (ask_as c.args.with_directories table (g.L.LookUp.table c.paths.look_up) specs c.in-Some.path.items c.as_slice-path.result.now (g.D.Directories.asked c.paths.directories) (g.D.Directories.asked c.visit.new.directories) i.table c.as_slice-path.ensures.value c.visit.ensures.asked);
      room = fits-kept _ (box_value c.paths.scratch) c.visit.new.scratch i.room (v.room ∙ ap (λ (s : ScratchContents). s.room) c.deref_mut.ensures.value);
      tree = v.tree_stays ∙ i.tree;
      table = v.look_up.0 ∙ i.table;
      stops = v.stops ∙ i.stops;
      count = v.look_up.1 ∙ i.count;
    }
