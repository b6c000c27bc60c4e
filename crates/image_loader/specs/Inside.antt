-- The meaning of the fields of loaded images.
use Rattle.image_loader.specs.declared.loaded.Loaded.TheInside.{Inside}
use Rattle.image_loader.specs.Images.{LoadedImages}
use Rattle.image_loader.specs.Loading.{AreLoaded}

abbrev pub loaded_images : Inside → LoadedImages
loaded_images loaded = record {
  nodes = loaded.nodes;
  private_bytes = loaded.private_bytes;
  block_bytes = loaded.block_bytes;
  blocks = loaded.blocks;
  images = loaded.images.items;
}

abbrev pub IsSound : Inside → Type 0
IsSound loaded = AreLoaded (loaded_images loaded)
