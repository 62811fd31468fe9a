-- What the items of several files stand for.
use Rattle.spectra_trees.specs.Views.{item_data}
use Rattle.spectra_declared.specs.declared.items.Filed.{Filed}
use Rattle.spectra_declared.specs.Items.{FiledItem}

abbrev pub filed_data : Filed → FiledItem
filed_data f = (f.file, item_data f.item.now)
