-- The collector of a heap of bare words, and that of a heap of dated words.
use Rattle.std.specs.Prelude.{List, map}
use Rattle.rec_word.specs.Bare.{bare}
use Rattle.rec_log.specs.Words.{buffer_by}
use Rattle.rec_log.specs.declared.contents.Contents.{Contents}
use Rattle.rec_collector.specs.Private.{Private}

-- the buffers with bare words
abbrev pub bare_buffers : List Contents → List Contents
bare_buffers bs = map (buffer_by bare) bs

-- the collector as it is in a heap of bare words
abbrev pub bare_private : Private → Private
bare_private p = record p { newer = bare_buffers p.newer; older = bare_buffers p.older }
