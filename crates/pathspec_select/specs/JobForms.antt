-- What a clause reads of the specs of a job.
use Rattle.gix_pathspec.specs.Search.{SearchContents}
use Rattle.pathspec_select.specs.declared.job.specs.JobSpecs.{JobSpecs as Held}
use Rattle.pathspec_select.specs.declared.job.specs.JobSpecs.TheVariants as held
use Rattle.pathspec_select.specs.Requests.{JobSpecs}
use Rattle.pathspec_select.specs.Requests.JobSpecs.{FromWords, FromInput}

-- where they stand
abbrev pub job_specs_view : Held → JobSpecs SearchContents
job_specs_view (held.FromWords search) = FromWords search
job_specs_view (held.FromInput builder) = FromInput builder
