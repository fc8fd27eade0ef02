-- SPDX-License-Identifier: Apache-2.0
-- What the code of an image has beside it: for each word the task that it is. This project's own.
use Rattle.std.specs.Prelude.{◌≡◌, ℕ, ◌*◌, ◌/◌, ◌%◌, ◌<◌, List, [], length, slice_index, slice_index_or}
use Rattle.sh_types.specs.Image.{sizes_of}
use Rattle.sh_types.specs.Place.{pair}
use Rattle.sh_types.specs.declared.code.Image.{Image}
use Rattle.sh_types.specs.declared.code.Pair.{Pair}
use Rattle.token_lookup.specs.Rising.{Rises}
use Rattle.token_ways.specs.Labels.{RisesByFunc}
use Rattle.thread_step.specs.Numbered.{IsNumbered}
use Rattle.thread_step.specs.Task.{IsTask}
use Rattle.thread_step.specs.declared.tasks.Task.{Task}
use Rattle.thread_step.specs.declared.tasks.Task.TheVariants.{Illegal}

-- the tasks of the first n words of a function
pub record AreTasks (image : Image) (f n : ℕ) (tasks : List Task) : Type 0 where
  pub many : length tasks ≡ n
  pub each : (i : ℕ) → i < n → IsTask image (pair f (4 * i)) (slice_index_or tasks i Illegal)

-- those of all words of the first n functions
pub record AreListed (image : Image) (n : ℕ) (tasks : List (List Task)) : Type 0 where
  pub many : length tasks ≡ n
  pub each : (f : ℕ) → f < n → AreTasks image f (slice_index (sizes_of image) f / 4) (slice_index_or tasks f [])

-- the lists have the task at the pair, where a word begins
pub record StandsAt (tasks : List (List Task)) (p : Pair) (t : Task) : Type 0 where
  pub whole : p.off % 4 ≡ 0
  pub func : p.func < length tasks
  pub inside : p.off / 4 < length (slice_index_or tasks p.func [])
  pub is : t ≡ slice_index_or (slice_index_or tasks p.func []) (p.off / 4) Illegal

-- an image that can be looked up, with its numbers and its tasks
pub record IsCode (image : Image) (numbers : List (List ℕ)) (tasks : List (List Task)) : Type 0 where
  pub rows : Rises image.rows
  pub labels : RisesByFunc image.labels
  pub numbered : IsNumbered image numbers
  pub tasked : AreListed image (length (sizes_of image)) tasks
