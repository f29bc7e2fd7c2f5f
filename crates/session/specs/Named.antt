-- What the words of the command line ask for, as they are read. Source: this project's own rule.
use Rattle.session.specs.Words.{AssemblyRequest, FlatRequest, RunRequest}
use Rattle.session.specs.declared.words.AssemblyWords.{AssemblyWords}
use Rattle.session.specs.declared.words.FlatWords.{FlatWords}
use Rattle.session.specs.declared.words.RunWords.{RunWords}

abbrev pub flat_named : FlatWords → FlatRequest
flat_named w = record { image = w.image.now; count = w.count }

abbrev pub request_named : RunWords → RunRequest
request_named w = record { config = w.config.now; image = w.image.now; script = w.script.now }

abbrev pub assembly_named : AssemblyWords → AssemblyRequest
assembly_named w = record { source = w.source.now; image = w.image.now }
