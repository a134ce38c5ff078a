-- What the recorder learns of a completion.
use Rattle.vk_types.specs.declared.message.Completion.{Completion}
use Rattle.vk_types.specs.declared.message.Post.{Post}

-- all of the completion but its blocks that go home
abbrev pub post_of : Completion → Post
post_of c = record {
  number = c.number;
  upto = c.upto;
  placed = c.placed;
  pages = c.pages;
  snaps = c.snaps;
  values = c.values;
  ops = c.ops;
}
